-- A number is that of one rule, and of one fault.
use Rattle.std.proofs.Common.{◌≡◌, ℕ, ◌-◌, List, [], ◌∷◌, get_or, refl, sym, ap, ◌∙◌}
use Rattle.room_inherit.specs.BaseRules.{number_of}
use Rattle.room_inherit.specs.declared.base_rule.BaseRule.{BaseRule}
use Rattle.room_inherit.specs.declared.base_rule.BaseRule.TheVariants as bases
use Rattle.structure_check.specs.List.{flat_rules, rule_of}
use Rattle.structure_check.specs.declared.flat_rule.FlatRule.{FlatRule}
use Rattle.structure_check.specs.declared.flat_rule.FlatRule.TheVariants as rules
use Rattle.binding_expand.specs.Faults.{number}
use Rattle.binding_expand.specs.declared.fault.WiringFault.{WiringFault}
use Rattle.binding_expand.specs.declared.fault.WiringFault.TheVariants as wirings
use Rattle.inject_reader.specs.LineFaults.{code_of}
use Rattle.inject_reader.specs.declared.line_fault.LineFault.{LineFault}
use Rattle.inject_reader.specs.declared.line_fault.LineFault.TheVariants as line_faults

-- what is found again by its number is the only one with that number
by_number : {X : Type 0} (found : ℕ → X) (number_in : X → ℕ) → ((x : X) → found (number_in x) ≡ x) → (a b : X) → number_in a ≡ number_in b → a ≡ b
by_number found number_in again a b is = sym (again a) ∙ ap found is ∙ again b

-- ---- the rules of flat models, numbered from 1

rule_at : ℕ → FlatRule
rule_at n = get_or flat_rules (n - 1) rules.OneSystem

rule_again : (r : FlatRule) → rule_at (rule_of r).number ≡ r
unfolding rule_at
rule_again rules.OneSystem = refl
rule_again rules.ClassNames = refl
rule_again rules.PartNames = refl
rule_again rules.MessageNames = refl
rule_again rules.FieldNames = refl
rule_again rules.KnownTypes = refl
rule_again rules.FiniteData = refl
rule_again rules.SmallClasses = refl
rule_again rules.FittingValues = refl
rule_again rules.KnownProtocols = refl
rule_again rules.OwnPorts = refl
rule_again rules.KnownActors = refl
rule_again rules.FiniteActors = refl
rule_again rules.Replication = refl
rule_again rules.AnyPlacesAtEnds = refl
rule_again rules.PlainSubsystems = refl
rule_again rules.ImportedEnds = refl
rule_again rules.BindingSides = refl
rule_again rules.SidesAgree = refl
rule_again rules.AnyPlacesOnce = refl
rule_again rules.KnownLayers = refl
rule_again rules.FewThreads = refl
rule_again rules.KnownMappings = refl
rule_again rules.AllowedMappings = refl
rule_again rules.FewParts = refl

pub rule_by_number : (a b : FlatRule) → (rule_of a).number ≡ (rule_of b).number → a ≡ b
rule_by_number a b is = by_number rule_at (λ r. (rule_of r).number) rule_again a b is

-- ---- the rules on bases, numbered from 26

base_at : ℕ → BaseRule
base_at n = get_or (bases.KnownBases ∷ bases.NoCircle ∷ bases.RightPlaces ∷ bases.KnownRefinements ∷ bases.RefinedOnce ∷ bases.SmallModel ∷ []) (n - 26) bases.KnownBases

base_again : (r : BaseRule) → base_at (number_of r) ≡ r
unfolding base_at
base_again bases.KnownBases = refl
base_again bases.NoCircle = refl
base_again bases.RightPlaces = refl
base_again bases.KnownRefinements = refl
base_again bases.RefinedOnce = refl
base_again bases.SmallModel = refl

pub base_by_number : (a b : BaseRule) → number_of a ≡ number_of b → a ≡ b
base_by_number a b is = by_number base_at number_of base_again a b is

-- ---- the faults of a wiring, numbered from 1

wiring_at : ℕ → WiringFault
wiring_at n = get_or (wirings.TooManySlots ∷ wirings.TooManyPlaces ∷ wirings.NoFreePlace ∷ wirings.SocketPair ∷ wirings.SocketAway ∷ []) (n - 1) wirings.TooManySlots

wiring_again : (f : WiringFault) → wiring_at (number f) ≡ f
unfolding wiring_at
wiring_again wirings.TooManySlots = refl
wiring_again wirings.TooManyPlaces = refl
wiring_again wirings.NoFreePlace = refl
wiring_again wirings.SocketPair = refl
wiring_again wirings.SocketAway = refl

pub wiring_by_number : (a b : WiringFault) → number a ≡ number b → a ≡ b
wiring_by_number a b is = by_number wiring_at number wiring_again a b is

-- ---- the codes of faulty lines, numbered from 1

line_at : ℕ → LineFault
line_at n = get_or (line_faults.NoForm ∷ line_faults.NoSlot ∷ line_faults.NoEnd ∷ line_faults.NoSignal ∷ line_faults.OtherNumbers ∷ line_faults.TooManyLines ∷ line_faults.NoTime ∷ []) (n - 1) line_faults.NoForm

line_again : (f : LineFault) → line_at (code_of f) ≡ f
unfolding line_at
line_again line_faults.NoForm = refl
line_again line_faults.NoSlot = refl
line_again line_faults.NoEnd = refl
line_again line_faults.NoSignal = refl
line_again line_faults.OtherNumbers = refl
line_again line_faults.TooManyLines = refl
line_again line_faults.NoTime = refl

pub line_by_code : (a b : LineFault) → code_of a ≡ code_of b → a ≡ b
line_by_code a b is = by_number line_at code_of line_again a b is
