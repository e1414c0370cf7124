-- Two plans are one, up to what names their states, nodes and transitions.
use Rattle.std.specs.Prelude.{◌≡◌, List, [], ◌∷◌, Option, Some, None}
use Rattle.chart_model.specs.chart_plan.Plan.{Kind, Simple, Border, Choice, Entry, Exit, Plan}
use Rattle.chart_model.specs.chart_plan.Handling.{Memory, Outcome}

-- lists whose items are related one by one
pub data Each {A B : Type 0} (R : A → B → Type 0) : List A → List B → Type 0 where
  none : Each R [] []
  more : {x : A} {y : B} {xs : List A} {ys : List B} → R x y → Each R xs ys → Each R (x ∷ xs) (y ∷ ys)

-- both are there and related, or neither is there
pub data Maybe {A B : Type 0} (R : A → B → Type 0) : Option A → Option B → Type 0 where
  absent : Maybe R None None
  present : {x : A} {y : B} → R x y → Maybe R (Some x) (Some y)

-- both lead to the same
pub data SameKind {S T S' T' : Type 0} (RS : S → S' → Type 0) (RT : T → T' → Type 0) : Kind S T → Kind S' T' → Type 0 where
  simple : {s : S} {s' : S'} → RS s s' → SameKind RS RT (Simple s) (Simple s')
  border : {s : S} {s' : S'} {t : T} {t' : T'} → RS s s' → RT t t' → SameKind RS RT (Border s t) (Border s' t')
  choice : {ts : List T} {ts' : List T'} {t : T} {t' : T'} → Each RT ts ts' → RT t t' → SameKind RS RT (Choice ts t) (Choice ts' t')
  entry : {s : S} {s' : S'} {t : T} {t' : T'} → RS s s' → RT t t' → SameKind RS RT (Entry s t) (Entry s' t')
  exit : {s : S} {s' : S'} {t : T} {t' : T'} → RS s s' → RT t t' → SameKind RS RT (Exit s t) (Exit s' t')

-- the plans say the same of what is related
pub record SamePlan {S N T S' N' T' E P C : Type 0} (RS : S → S' → Type 0) (RN : N → N' → Type 0) (RT : T → T' → Type 0) (p : Plan S N T E P C) (q : Plan S' N' T' E P C) : Type 0 where
  pub same : (a : S) (a' : S') (b : S) (b' : S') → RS a a' → RS b b' → p.same a b ≡ q.same a' b'
  pub up : (s : S) (s' : S') → RS s s' → Each RS (p.up s) (q.up s')
  pub entry : (s : S) (s' : S') → RS s s' → p.entry s ≡ q.entry s'
  pub exit : (s : S) (s' : S') → RS s s' → p.exit s ≡ q.exit s'
  pub tried : (s : S) (s' : S') → RS s s' → Each RT (p.tried s) (q.tried s')
  pub triggers : (t : T) (t' : T') → RT t t' → p.triggers t ≡ q.triggers t'
  pub same_event : p.same_event ≡ q.same_event
  pub condition : (t : T) (t' : T') → RT t t' → p.condition t ≡ q.condition t'
  pub action : (t : T) (t' : T') → RT t t' → p.action t ≡ q.action t'
  pub target : (t : T) (t' : T') → RT t t' → RN (p.target t) (q.target t')
  pub node : (n : N) (n' : N') → RN n n' → SameKind RS RT (p.node n) (q.node n')
  pub most : p.most ≡ q.most

-- related states have related histories, and programs changed the same
pub record SameMemory {S S' R : Type 0} (RS : S → S' → Type 0) (m : Memory S R) (m' : Memory S' R) : Type 0 where
  pub past : (s : S) (s' : S') → RS s s' → Maybe RS (m.past s) (m'.past s')
  pub ran : m.ran ≡ m'.ran

-- both handled the message alike
pub record SameOutcome {S S' R : Type 0} (RS : S → S' → Type 0) (a : Outcome S R) (b : Outcome S' R) : Type 0 where
  pub enabled : a.enabled ≡ b.enabled
  pub leaf : Maybe RS a.leaf b.leaf
  pub memory : SameMemory RS a.memory b.memory
