-- Commands, and what they do to all but machines.
use Rattle.std.proofs.Common.{◌≡◌, ℕ, ◌==◌, Bool, true, false, if◌then◌else◌, List, [], ◌∷◌, Option, Some, None, refl, sym, ap, ◌∙◌, subst, eqb-true}
use Rattle.room_kinds.specs.declared.message.Msg.{Msg}
use Rattle.room_kinds.specs.declared.note.Note.{Note}
use Rattle.room_kinds.specs.declared.command.Command.{Command}
use Rattle.room_kinds.specs.declared.command.Command.TheVariants as commands
use Rattle.room_kinds.specs.declared.numbers.Incarnation.{Incarnation}
use Rattle.room_wiring.specs.declared.tables.Tables.{Tables}
use Rattle.actor_duties.specs.Words.{updated}
use Rattle.actor_duties.specs.State.{Frame, Links, NameTable}
use Rattle.actor_world.specs.Body.{Body, Doing, apply, apply_all}

-- both are there and related, or neither is there
pub data Both {A B : Type 0} (R : A → B → Type 0) : Option A → Option B → Type 0 where
  neither : Both R None None
  both : {x : A} {y : B} → R x y → Both R (Some x) (Some y)

-- a body but for its machines
pub record Core : Type 0 where
  pub frame : Frame
  pub links : Links
  pub table : NameTable
  pub deferred : ℕ → List Msg

-- what is being done but for machines
pub record Work : Type 0 where
  pub core : Core
  pub sent : List Msg
  pub back : List Msg
  pub notes : List Note
  pub kept : Bool

abbrev pub core_of : {M : Type 0} → Body M → Core
core_of b = record { frame = b.frame; links = b.links; table = b.table; deferred = b.deferred }

abbrev pub body_of : {M : Type 0} → Core → (ℕ → Option M) → Body M
body_of k f = record { frame = k.frame; links = k.links; table = k.table; machines = f; deferred = k.deferred }

abbrev pub work_of : {M : Type 0} → Doing M → Work
work_of d = record { core = core_of d.body; sent = d.sent; back = d.back; notes = d.notes; kept = d.kept }

abbrev pub doing_of : {M : Type 0} → Work → (ℕ → Option M) → Doing M
doing_of w f = record { body = body_of w.core f; sent = w.sent; back = w.back; notes = w.notes; kept = w.kept }

-- the same with no machines at all
abbrev pub none : ℕ → Option ℕ
none s = None

abbrev pub apply_work : Tables → ℕ → Incarnation → Option Msg → Work → Command → Work
apply_work t me x m w c = work_of (apply t me x m (doing_of w none) c)

abbrev pub all_work : Tables → ℕ → Incarnation → Option Msg → List Command → Work → Work
all_work t me x m [] w = w
all_work t me x m (c ∷ cs) w = all_work t me x m cs (apply_work t me x m w c)

module _ {M : Type 0} (t : Tables) (me : ℕ) (x : Incarnation) (m : Option Msg) where
  apply_is : (d : Doing M) (c : Command) → work_of (apply t me x m d c) ≡ apply_work t me x m (work_of d) c
  apply_is d (commands.Send p None signal payload prio) = refl
  apply_is d (commands.Send p (Some k) signal payload prio) = refl
  apply_is d commands.Defer = refl
  apply_is d commands.Recall = refl
  apply_is d commands.RecallAll = refl
  apply_is d (commands.Frame c) = refl
  apply_is d (commands.Name c) = refl

  apply_machines : (d : Doing M) (c : Command) → (apply t me x m d c).body.machines ≡ d.body.machines
  apply_machines d (commands.Send p k signal payload prio) = refl
  apply_machines d commands.Defer = refl
  apply_machines d commands.Recall = refl
  apply_machines d commands.RecallAll = refl
  apply_machines d (commands.Frame c) = refl
  apply_machines d (commands.Name c) = refl

  pub apply_all_is : (cs : List Command) (d : Doing M) → work_of (apply_all t me x m cs d) ≡ all_work t me x m cs (work_of d)
  apply_all_is [] d = refl
  apply_all_is (c ∷ cs) d = apply_all_is cs (apply t me x m d c) ∙ ap (all_work t me x m cs) (apply_is d c)

  pub apply_all_machines : (cs : List Command) (d : Doing M) → (apply_all t me x m cs d).body.machines ≡ d.body.machines
  apply_all_machines [] d = refl
  apply_all_machines (c ∷ cs) d = apply_all_machines cs (apply t me x m d c) ∙ apply_machines d c

module _ {M N : Type 0} (R : ℕ → M → N → Type 0) where
  -- machines are related slot by slot
  abbrev pub Like : (ℕ → Option M) → (ℕ → Option N) → Type 0
  Like f g = (s : ℕ) → Both (R s) (f s) (g s)

  pub record Alike (d : Doing M) (e : Doing N) : Type 0 where
    pub work : work_of d ≡ work_of e
    pub machines : Like d.body.machines e.body.machines

  pub updated_like : (f : ℕ → Option M) (g : ℕ → Option N) (at : ℕ) (a : Option M) (b : Option N) → Like f g → Both (R at) a b → Like (updated f at a) (updated g at b)
  unfolding updated
  updated_like f g at a b h k s = go (s == at) refl
    where
      go : (q : Bool) → (s == at) ≡ q → Both (R s) (if q then a else f s) (if q then b else g s)
      go true e = subst (λ (n : ℕ). Both (R n) a b) (sym (eqb-true s at e)) k
      go false e = h s

  pub apply_all_alike : (t : Tables) (me : ℕ) (x : Incarnation) (m : Option Msg) (cs ds : List Command) (d : Doing M) (e : Doing N)
      → cs ≡ ds → Alike d e → Alike (apply_all t me x m cs d) (apply_all t me x m ds e)
  apply_all_alike t me x m cs ds d e same h =
      subst (λ (z : List Command). Alike (apply_all t me x m cs d) (apply_all t me x m z e)) same (record {
        work = apply_all_is t me x m cs d ∙ ap (all_work t me x m cs) h.work ∙ sym (apply_all_is t me x m cs e);
        machines = λ s.
            subst (λ (f : ℕ → Option M). Both (R s) (f s) ((apply_all t me x m cs e).body.machines s)) (sym (apply_all_machines t me x m cs d))
            (subst (λ (g : ℕ → Option N). Both (R s) (d.body.machines s) (g s)) (sym (apply_all_machines t me x m cs e)) (h.machines s));
      })
