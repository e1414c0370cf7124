-- What each duty of the frame service tells, hears, and does to parts of others.
use Rattle.std.proofs.Common.{◌≡◌, ℕ, ◌==◌, ◌&&◌, ◌||◌, Bool, true, false, not, if◌then◌else◌, List, [], ◌∷◌, flat_map, Option, Some, None, ℤ, pos, negsuc, refl, sym, ap, ◌∙◌, subst, eqb-true}
use Rattle.std.proofs.lemmas.Bool.{and_parts, ne_eqb}
use Rattle.room_kinds.specs.declared.message.Msg.{Msg}
use Rattle.room_kinds.specs.declared.numbers.Incarnation.{Incarnation}
use Rattle.room_kinds.specs.declared.numbers.Endpoint.{Endpoint}
use Rattle.room_kinds.specs.declared.system.SysKind.{SysKind}
use Rattle.room_kinds.specs.declared.system.SysKind.TheVariants as kinds
use Rattle.room_wiring.specs.declared.tables.Tables.{Tables}
use Rattle.actor_duties.specs.Words.{updated, frame_at, frame_of, whose, is_frame, is_endpoint, is_own, is_optional, is_part_of, container_of}
use Rattle.actor_duties.specs.State.{Lives, Frame}
use Rattle.actor_duties.specs.Messages.{reply, coded, NotHere, Occupied}
use Rattle.actor_duties.specs.Lives.{answered, counts_as_live, is_live, create, made, part_make, lives_made, lives_ended, last_of, announce, parts_told, ended_slots, has_part, is_made_with, is_reached}
use Rattle.actor_duties.specs.Frame.{end_messages, part_ends, frame_ended, end_set_ended, FrameDone, only_sends, nothing, plainly, with_number, of_natural, with_lives, destroy, part_end, is_request, is_announced, is_part_told, frame_duty, frame_duty_of, frame_duty_from}
use Rattle.actor_world.proofs.LifeSteps.{IsSound}
use Rattle.service_messages.proofs.slot_runs.RunLemmas.{held_true, same_some, not_true_false}
use Rattle.law_agreement.specs.Announced.{told_by, told_if, heard_of}
use Rattle.law_agreement.specs.Bodies.{part_if, part_heard_of}
use Rattle.law_agreement.proofs.Lists.{all_append}
use Rattle.law_agreement.proofs.Plain.{AllPlain, plain_create_done, plain_create_refused, plain_destroy_done, plain_import, plain_import_done, plain_import_refused, plain_import_ended, plain_deport, plain_deport_done}
use Rattle.law_agreement.proofs.Carrying.{IsPlainLast}
use Rattle.law_agreement.proofs.Hearing.{swap_eqb, parts_unheard}
use Rattle.law_agreement.proofs.Alternating.{to_off, all_plain_off}
use Rattle.law_agreement.proofs.Below.{made_once, body_reached, not_reached}
use Rattle.law_agreement.proofs.Living.{stays, makes, ends, not_own_dead, made_lives, made_stays, ended_dead, ended_stays}
use Rattle.law_agreement.proofs.Telling.{IsOwned, plain_owned, Announces, announces_plain, announces_more, TellsParts, parts_plain, Tells, made_announced, made_owned, made_parts, part_made_parts, parts_owned, ended_announced, ended_owned, ended_parts, ended_parts_owned, ended_parts_unheard, made_alternate, part_made_alternate, ended_alternate}

-- what the forms of messages on an optional slot say
pub request_parts : (t : Tables) (me : ℕ) (x o : Endpoint) → is_request t me x o ≡ true
    → (is_optional t o.slot.0 ≡ true) × (is_own t me o.slot.0 ≡ true) × (is_part_of t o.slot.0 x.slot.0 ≡ true)
request_parts t me x o h =
    let a = and_parts (is_frame x && is_frame o && (o.generation.0 == 0) && is_optional t o.slot.0 && is_own t me o.slot.0) (is_part_of t o.slot.0 x.slot.0) h in
    let b = and_parts (is_frame x && is_frame o && (o.generation.0 == 0) && is_optional t o.slot.0) (is_own t me o.slot.0) a.0 in
    let c = and_parts (is_frame x && is_frame o && (o.generation.0 == 0)) (is_optional t o.slot.0) b.0 in
    (c.1, b.1, a.1)

pub part_told_parts : (t : Tables) (me : ℕ) (o again : Endpoint) → is_part_told t me o again ≡ true
    → (is_optional t o.slot.0 ≡ true) × (is_own t me o.slot.0 ≡ false)
part_told_parts t me o again h =
    let a = and_parts (is_frame o && is_endpoint o again && not (o.generation.0 == 0)) (is_optional t o.slot.0 && (not (is_own t me o.slot.0) && has_part t me o.slot.0)) h in
    let b = and_parts (is_optional t o.slot.0) (not (is_own t me o.slot.0) && has_part t me o.slot.0) a.1 in
    let c = and_parts (not (is_own t me o.slot.0)) (has_part t me o.slot.0) b.1 in
    (b.0, denied (is_own t me o.slot.0) c.0)
  where
    denied : (b : Bool) → not b ≡ true → b ≡ false
    denied true e = absurd cc
    denied false e = refl

-- a slot of a controller's own, in the body of an optional slot that another controller owns
pub record IsFar (t : Tables) (me o s : ℕ) : Type 0 where
  pub optional : is_optional t o ≡ true
  pub foreign : is_own t me o ≡ false
  pub own : is_own t me s ≡ true
  pub made : is_made_with t o s ≡ true

module _ (t : Tables) (me : ℕ) (f : Frame) where
  -- a fact of a duty at a message of its form, and of one that does nothing
  pub by_plainly : (P : FrameDone → Type 0) → P (nothing f) → (fits : Bool) (payload : List ℤ) (r : FrameDone) → (fits ≡ true → P r) → P (plainly f fits payload r)
  by_plainly P none true [] r h = h refl
  by_plainly P none false [] r h = none
  by_plainly P none fits (n ∷ ns) r h = none

  pub by_number : (P : FrameDone → Type 0) → P (nothing f) → (fits : Bool) (payload : List ℤ) (r : ℤ → FrameDone) → ((n : ℤ) → P (r n)) → P (with_number f fits payload r)
  by_number P none fits [] r h = none
  by_number P none true (n ∷ []) r h = h n
  by_number P none false (n ∷ []) r h = none
  by_number P none fits (n ∷ (k ∷ ns)) r h = none

  pub by_natural : (P : FrameDone → Type 0) → P (nothing f) → (n : ℤ) (r : ℕ → FrameDone) → ((n : ℕ) → P (r n)) → P (of_natural f n r)
  by_natural P none (pos n) r h = h n
  by_natural P none (negsuc n) r h = none

  -- what duties tell
  Says : FrameDone → Type 0
  Says r = Tells t me f.lives r

  still : (r : FrameDone) → r.frame.lives ≡ f.lives → IsPlainLast r.last → AllPlain r.sent → Tells t me f.lives r
  still r lives last h =
      record {
        last = last;
        owned = plain_owned t me r.sent h;
        announced = subst (λ (z : Lives). Announces t me f.lives z r.sent) (sym lives) (announces_plain t me f.lives r.sent h);
        parts = λ sound. subst (λ (z : Lives). TellsParts t me f.lives z r.sent) (sym lives) (parts_plain t me f.lives r.sent h);
        alternate = λ sound o d own other. to_off t d o r.sent (f.lives.lives o) (all_plain_off t d o r.sent h);
        stepped = stays lives;
      }

  none_says : Tells t me f.lives (nothing f)
  none_says = still (nothing f) refl tt tt

  part_says : (o : ℕ) → is_optional t o ≡ true → is_own t me o ≡ false → Tells t me f.lives (with_lives f (part_make t me f.lives o))
  unfolding part_make
  part_says o opt foreign =
      record {
        last = tt;
        owned = made_owned t me f.lives o;
        announced = made_announced t me f.lives o;
        parts = λ sound. part_made_parts t me f.lives o opt foreign;
        alternate = λ sound. part_made_alternate t me f.lives o;
        stepped = makes o opt (λ c own is other. absurd (not_true_false (is_own t me o) own foreign)) refl;
      }

  create_says : (m : Msg) (o : ℕ) (x : Endpoint) → is_optional t o ≡ true → is_own t me o ≡ true → is_part_of t o x.slot.0 ≡ true
      → Tells t me f.lives (with_lives f (create t me f.lives m o x))
  unfolding create made part_make
  create_says m o x opt own part = go (counts_as_live t me f.lives (whose x)) refl (f.lives.lives o) refl
    where
      container : counts_as_live t me f.lives (whose x) ≡ true → (c : ℕ) → is_own t me o ≡ true → container_of t o ≡ Some c → is_own t me c ≡ true → f.lives.lives c ≡ true
      container live c mine is other =
          let p = held_true (λ p. p == x.slot.0) (container_of t o) part in
          let same : c ≡ x.slot.0 = same_some t o c p.0 is p.1 ∙ eqb-true p.0 x.slot.0 p.2 in
          let owned : is_own t me x.slot.0 ≡ true = subst (λ z. is_own t me z ≡ true) same other in
          let lives : is_live f.lives (whose x) ≡ true = rw owned at live in
          subst (λ z. f.lives.lives z ≡ true) (sym same) (and_parts (f.lives.lives x.slot.0) (f.lives.generation x.slot.0 == x.generation.0) lives).0

      go : (a : Bool) → counts_as_live t me f.lives (whose x) ≡ a → (b : Bool) → f.lives.lives o ≡ b → Tells t me f.lives (with_lives f (
          if not a then answered f.lives (reply me m kinds.CreateRefused (frame_at o 0) x (coded NotHere))
          else if b then answered f.lives (reply me m kinds.CreateRefused (frame_at o 0) x (coded Occupied))
          else made t me f.lives m o x))
      go false e b d = still _ refl refl tt
      go true e true d = still _ refl refl tt
      go true e false d =
          let told : List Msg = parts_told t me kinds.PartMake (last_of (lives_made t me o f.lives) o) in
          record {
            last = refl;
            owned = all_append (IsOwned t me) _ told (made_owned t me f.lives o) (parts_owned t me (last_of (lives_made t me o f.lives) o) own).0;
            announced = announces_more t me f.lives (lives_made t me o f.lives) _ told (made_announced t me f.lives o)
                (λ d s. (parts_unheard t d s me (last_of (lives_made t me o f.lives) o)).0);
            parts = λ sound. made_parts t me f.lives o opt own d;
            alternate = λ sound. made_alternate t me f.lives o own d;
            stepped = makes o opt (container e) refl;
          }

  end_set_says : (o : ℕ) (last : Option Msg) → is_optional t o ≡ true → IsPlainLast last → Tells t me f.lives (end_set_ended t me f o last)
  unfolding end_set_ended frame_ended
  end_set_says o last opt plain =
      record {
        last = plain;
        owned = all_append (IsOwned t me) (flat_map (end_messages t me f) (ended_slots t me f.lives o)) (flat_map (part_ends t me f) (ended_slots t me f.lives o))
            (ended_owned t me f o) (ended_parts_owned t me f o);
        announced = announces_more t me f.lives (lives_ended t me o f.lives) (flat_map (end_messages t me f) (ended_slots t me f.lives o)) (flat_map (part_ends t me f) (ended_slots t me f.lives o))
            (ended_announced t me f o) (λ d s. ended_parts_unheard t me f d s (ended_slots t me f.lives o));
        parts = λ sound. ended_parts t me f o sound;
        alternate = λ sound. ended_alternate t me f o sound;
        stepped = ends o opt refl;
      }

  destroy_says : (m : Msg) (o : ℕ) (x : Endpoint) → is_optional t o ≡ true → Tells t me f.lives (destroy t me f m o x)
  unfolding destroy
  destroy_says m o x opt = go (not (counts_as_live t me f.lives (whose x)) || not (f.lives.lives o))
    where
      done : Option Msg
      done = Some (reply me m kinds.DestroyDone (frame_of (last_of f.lives o)) x (pos 0 ∷ []))

      go : (a : Bool) → Tells t me f.lives (
          if a then record { frame = f; sent = []; made = []; ended = []; last = Some (reply me m kinds.DestroyDone (frame_at o 0) x (coded NotHere)) }
          else end_set_ended t me f o done)
      go true = still _ refl refl tt
      go false = end_set_says o done opt refl

  part_end_says : (o : ℕ) → is_optional t o ≡ true → Tells t me f.lives (part_end t me f o)
  unfolding part_end
  part_end_says o opt = end_set_says o None opt tt

  duty_of_says : (m : Msg) (kind : SysKind) (a b : Endpoint) → Tells t me f.lives (frame_duty_of t me f m kind a b)
  unfolding Says
  duty_of_says m kinds.Create x o =
      by_plainly Says none_says (is_request t me x o) m.payload _ (λ h. let p = request_parts t me x o h in create_says m o.slot.0 x p.0 p.1 p.2)
  duty_of_says m kinds.Destroy x o =
      by_plainly Says none_says (is_request t me x o) m.payload _ (λ h. destroy_says m o.slot.0 x (request_parts t me x o h).0)
  duty_of_says m kinds.CreateDone a b = by_plainly Says none_says _ m.payload _ (λ h. still _ refl tt (plain_create_done t me a b))
  duty_of_says m kinds.CreateRefused a b = by_number Says none_says _ m.payload _ (λ n. still _ refl tt (plain_create_refused t me a b n))
  duty_of_says m kinds.DestroyDone a b =
      by_number Says none_says _ m.payload _ (λ n. by_natural Says none_says n _ (λ k. still _ refl tt (plain_destroy_done t me a b k)))
  duty_of_says m kinds.Import a b = by_plainly Says none_says _ m.payload _ (λ h. still _ refl tt (plain_import t me f.lives f.plugs m a b))
  duty_of_says m kinds.ImportDone a b = by_plainly Says none_says _ m.payload _ (λ h. still _ refl tt (plain_import_done t me f.lives f.places a b))
  duty_of_says m kinds.ImportRefused a b = by_number Says none_says _ m.payload _ (λ n. still _ refl tt (plain_import_refused t me f.lives f.places a b n))
  duty_of_says m kinds.ImportEnded a b = by_plainly Says none_says _ m.payload _ (λ h. still _ refl tt (plain_import_ended t me f.lives f.places a b))
  duty_of_says m kinds.Deport a b = by_plainly Says none_says _ m.payload _ (λ h. still _ refl tt (plain_deport t me f.lives f.plugs m a b))
  duty_of_says m kinds.DeportDone a b = by_plainly Says none_says _ m.payload _ (λ h. still _ refl tt (plain_deport_done t me f.lives f.places a b))
  duty_of_says m kinds.Announce a b = by_number Says none_says _ m.payload _ (λ n. by_natural Says none_says n _ (λ k. still _ refl tt tt))
  duty_of_says m kinds.Register a b = none_says
  duty_of_says m kinds.Withdraw a b = none_says
  duty_of_says m kinds.Bound a b = none_says
  duty_of_says m kinds.Ended a b = none_says
  duty_of_says m kinds.NameReply a b = none_says
  duty_of_says m kinds.PartMake a b =
      by_plainly Says none_says (is_part_told t me a b) m.payload _ (λ h. let p = part_told_parts t me a b h in part_says a.slot.0 p.0 p.1)
  duty_of_says m kinds.PartEnd a b =
      by_plainly Says none_says (is_part_told t me a b) m.payload _ (λ h. part_end_says a.slot.0 (part_told_parts t me a b h).0)

  duty_from_says : (m : Msg) (kind : SysKind) (o : Option Endpoint) → Tells t me f.lives (frame_duty_from t me f m kind o)
  duty_from_says m kind None = none_says
  duty_from_says m kind (Some a) = duty_of_says m kind a m.target

  pub frame_duty_tells : (m : Msg) (kind : SysKind) → Tells t me f.lives (frame_duty t me f kind m)
  unfolding frame_duty
  frame_duty_tells m kind = duty_from_says m kind m.source

  -- what the directory tells of slot s after a duty of the frame service
  record ToldAs (s n : ℕ) (r : FrameDone) : Type 0 where
    pub told : r.frame.told s ≡ n

  as_before : (s : ℕ) → ToldAs s (f.told s) (nothing f)
  as_before s = record { told = refl }

  destroy_told : (s : ℕ) (m : Msg) (o : ℕ) (x : Endpoint) → ToldAs s (f.told s) (destroy t me f m o x)
  unfolding destroy end_set_ended frame_ended
  destroy_told s m o x = go (not (counts_as_live t me f.lives (whose x)) || not (f.lives.lives o))
    where
      done : Option Msg
      done = Some (reply me m kinds.DestroyDone (frame_of (last_of f.lives o)) x (pos 0 ∷ []))

      go : (a : Bool) → ToldAs s (f.told s) (
          if a then record { frame = f; sent = []; made = []; ended = []; last = Some (reply me m kinds.DestroyDone (frame_at o 0) x (coded NotHere)) }
          else end_set_ended t me f o done)
      go true = record { told = refl }
      go false = record { told = refl }

  part_end_told : (s o : ℕ) → ToldAs s (f.told s) (part_end t me f o)
  unfolding part_end end_set_ended frame_ended
  part_end_told s o = record { told = refl }

  announce_told : (s : ℕ) (x : Incarnation) (up : ℕ) → announce f.told x up s ≡ told_by s x up (f.told s)
  unfolding announce updated
  announce_told s x up =
      go (up == 1) (up == 0) ∙ ap (λ (c : Bool). if c then (if up == 1 then x.generation.0 else if up == 0 then 0 else f.told s) else f.told s) (swap_eqb s x.slot.0)
    where
      both : (c : Bool) → f.told s ≡ (if c then f.told s else f.told s)
      both true = refl
      both false = refl

      go : (a b : Bool)
          → (if a then (λ (n : ℕ). if n == x.slot.0 then x.generation.0 else f.told n) else if b then (λ (n : ℕ). if n == x.slot.0 then 0 else f.told n) else f.told) s
          ≡ (if s == x.slot.0 then (if a then x.generation.0 else if b then 0 else f.told s) else f.told s)
      go true b = refl
      go false true = refl
      go false false = both (s == x.slot.0)

  announced_told : (s : ℕ) (fits : Bool) (x : Incarnation) (numbers : List ℤ)
      → ToldAs s (told_if fits s x numbers (f.told s)) (with_number f fits numbers (λ n. of_natural f n (λ up. only_sends (record f { told = announce f.told x up }) [])))
  announced_told s true x [] = record { told = refl }
  announced_told s false x [] = record { told = refl }
  announced_told s true x (pos up ∷ []) = record { told = announce_told s x up }
  announced_told s true x (negsuc up ∷ []) = record { told = refl }
  announced_told s false x (n ∷ []) = record { told = refl }
  announced_told s true x (pos n ∷ (k ∷ ns)) = record { told = refl }
  announced_told s true x (negsuc n ∷ (k ∷ ns)) = record { told = refl }
  announced_told s false x (n ∷ (k ∷ ns)) = record { told = refl }

  duty_of_told : (s : ℕ) (m : Msg) (kind : SysKind) (a b : Endpoint)
      → ToldAs s (heard_of t me s (Some kind) (Some a) b m.payload (f.told s)) (frame_duty_of t me f m kind a b)
  duty_of_told s m kinds.Create x o = by_plainly (ToldAs s (f.told s)) (as_before s) _ m.payload _ (λ h. record { told = refl })
  duty_of_told s m kinds.Destroy x o = by_plainly (ToldAs s (f.told s)) (as_before s) _ m.payload _ (λ h. destroy_told s m o.slot.0 x)
  duty_of_told s m kinds.CreateDone a b = by_plainly (ToldAs s (f.told s)) (as_before s) _ m.payload _ (λ h. record { told = refl })
  duty_of_told s m kinds.CreateRefused a b = by_number (ToldAs s (f.told s)) (as_before s) _ m.payload _ (λ n. record { told = refl })
  duty_of_told s m kinds.DestroyDone a b =
      by_number (ToldAs s (f.told s)) (as_before s) _ m.payload _ (λ n. by_natural (ToldAs s (f.told s)) (as_before s) n _ (λ k. record { told = refl }))
  duty_of_told s m kinds.Import a b = by_plainly (ToldAs s (f.told s)) (as_before s) _ m.payload _ (λ h. record { told = refl })
  duty_of_told s m kinds.ImportDone a b = by_plainly (ToldAs s (f.told s)) (as_before s) _ m.payload _ (λ h. record { told = refl })
  duty_of_told s m kinds.ImportRefused a b = by_number (ToldAs s (f.told s)) (as_before s) _ m.payload _ (λ n. record { told = refl })
  duty_of_told s m kinds.ImportEnded a b = by_plainly (ToldAs s (f.told s)) (as_before s) _ m.payload _ (λ h. record { told = refl })
  duty_of_told s m kinds.Deport a b = by_plainly (ToldAs s (f.told s)) (as_before s) _ m.payload _ (λ h. record { told = refl })
  duty_of_told s m kinds.DeportDone a b = by_plainly (ToldAs s (f.told s)) (as_before s) _ m.payload _ (λ h. record { told = refl })
  duty_of_told s m kinds.Announce a b = announced_told s (is_announced t me a b) (whose a) m.payload
  duty_of_told s m kinds.Register a b = record { told = refl }
  duty_of_told s m kinds.Withdraw a b = record { told = refl }
  duty_of_told s m kinds.Bound a b = record { told = refl }
  duty_of_told s m kinds.Ended a b = record { told = refl }
  duty_of_told s m kinds.NameReply a b = record { told = refl }
  duty_of_told s m kinds.PartMake a b = by_plainly (ToldAs s (f.told s)) (as_before s) _ m.payload _ (λ h. record { told = refl })
  duty_of_told s m kinds.PartEnd a b = by_plainly (ToldAs s (f.told s)) (as_before s) _ m.payload _ (λ h. part_end_told s a.slot.0)

  none_told : (s : ℕ) (m : Msg) (kind : SysKind) → f.told s ≡ heard_of t me s (Some kind) None m.target m.payload (f.told s)
  none_told s m kinds.Announce = refl
  none_told s m kind = refl

  duty_from_told : (s : ℕ) (m : Msg) (kind : SysKind) (o : Option Endpoint)
      → (frame_duty_from t me f m kind o).frame.told s ≡ heard_of t me s (Some kind) o m.target m.payload (f.told s)
  duty_from_told s m kind None = none_told s m kind
  duty_from_told s m kind (Some a) = (duty_of_told s m kind a m.target).told

  pub frame_duty_told : (s : ℕ) (m : Msg) (kind : SysKind)
      → (frame_duty t me f kind m).frame.told s ≡ heard_of t me s (Some kind) m.source m.target m.payload (f.told s)
  unfolding frame_duty
  frame_duty_told s m kind = duty_from_told s m kind m.source

  module _ (o s : ℕ) (far : IsFar t me o s) (sound : IsSound t me f.lives) where
    -- whether an actor lives in slot s after a duty of the frame service
    record LivesAs (b : Bool) (r : FrameDone) : Type 0 where
      pub lives : r.frame.lives.lives s ≡ b

    live_before : LivesAs (f.lives.lives s) (nothing f)
    live_before = record { lives = refl }

    -- another optional slot is made or ends
    others_made : (p : ℕ) → is_optional t p ≡ true → (p == o) ≡ false → (lives_made t me p f.lives).lives s ≡ f.lives.lives s
    others_made p opt differ = made_stays t me f.lives p s (made_once t p o s opt far.optional differ far.made)

    others_ended : (p : ℕ) → is_optional t p ≡ true → (p == o) ≡ false → (lives_ended t me p f.lives).lives s ≡ f.lives.lives s
    others_ended p opt differ =
        ended_stays t me f.lives p s (not_reached t me f.lives p o s opt far.optional differ far.made (not_own_dead t me f.lives o sound far.foreign))

    own_differs : (p : ℕ) → is_own t me p ≡ true → (p == o) ≡ false
    own_differs p own = ne_eqb p o (λ e. not_true_false (is_own t me p) own (subst (λ z. is_own t me z ≡ false) (sym e) far.foreign))

    create_lives : (m : Msg) (p : ℕ) (x : Endpoint) → is_optional t p ≡ true → is_own t me p ≡ true → LivesAs (f.lives.lives s) (with_lives f (create t me f.lives m p x))
    unfolding create made part_make
    create_lives m p x opt own = go (not (counts_as_live t me f.lives (whose x))) (f.lives.lives p)
      where
        go : (a b : Bool) → LivesAs (f.lives.lives s) (with_lives f (
            if a then answered f.lives (reply me m kinds.CreateRefused (frame_at p 0) x (coded NotHere))
            else if b then answered f.lives (reply me m kinds.CreateRefused (frame_at p 0) x (coded Occupied))
            else made t me f.lives m p x))
        go true b = record { lives = refl }
        go false true = record { lives = refl }
        go false false = record { lives = others_made p opt (own_differs p own) }

    destroy_lives : (m : Msg) (p : ℕ) (x : Endpoint) → is_optional t p ≡ true → is_own t me p ≡ true → LivesAs (f.lives.lives s) (destroy t me f m p x)
    unfolding destroy end_set_ended frame_ended
    destroy_lives m p x opt own = go (not (counts_as_live t me f.lives (whose x)) || not (f.lives.lives p))
      where
        done : Option Msg
        done = Some (reply me m kinds.DestroyDone (frame_of (last_of f.lives p)) x (pos 0 ∷ []))

        go : (a : Bool) → LivesAs (f.lives.lives s) (
            if a then record { frame = f; sent = []; made = []; ended = []; last = Some (reply me m kinds.DestroyDone (frame_at p 0) x (coded NotHere)) }
            else end_set_ended t me f p done)
        go true = record { lives = refl }
        go false = record { lives = others_ended p opt (own_differs p own) }

    part_make_lives : (fits : Bool) (a : Endpoint) (numbers : List ℤ) → (fits ≡ true → is_optional t a.slot.0 ≡ true)
        → LivesAs (part_if fits o (whose a) true numbers (f.lives.lives s)) (plainly f fits numbers (with_lives f (part_make t me f.lives a.slot.0)))
    unfolding part_make
    part_make_lives true a [] opt = record { lives = go (a.slot.0 == o) refl }
      where
        go : (b : Bool) → (a.slot.0 == o) ≡ b → (lives_made t me a.slot.0 f.lives).lives s ≡ (if b then true else f.lives.lives s)
        go true e = made_lives t me f.lives a.slot.0 s (subst (λ z. is_made_with t z s ≡ true) (sym (eqb-true a.slot.0 o e)) far.made) far.own
        go false e = others_made a.slot.0 (opt refl) e
    part_make_lives false a [] opt = record { lives = refl }
    part_make_lives true a (n ∷ ns) opt = record { lives = refl }
    part_make_lives false a (n ∷ ns) opt = record { lives = refl }

    part_end_lives : (fits : Bool) (a : Endpoint) (numbers : List ℤ) → (fits ≡ true → is_optional t a.slot.0 ≡ true)
        → LivesAs (part_if fits o (whose a) false numbers (f.lives.lives s)) (plainly f fits numbers (part_end t me f a.slot.0))
    unfolding part_end end_set_ended frame_ended
    part_end_lives true a [] opt = record { lives = go (a.slot.0 == o) refl }
      where
        go : (b : Bool) → (a.slot.0 == o) ≡ b → (lives_ended t me a.slot.0 f.lives).lives s ≡ (if b then false else f.lives.lives s)
        go true e =
            ended_dead t me f.lives a.slot.0 s far.own
            (subst (λ z. is_reached t me f.lives z s ≡ true) (sym (eqb-true a.slot.0 o e)) (body_reached t me f.lives o s far.made))
        go false e = others_ended a.slot.0 (opt refl) e
    part_end_lives false a [] opt = record { lives = refl }
    part_end_lives true a (n ∷ ns) opt = record { lives = refl }
    part_end_lives false a (n ∷ ns) opt = record { lives = refl }

    duty_of_lives : (m : Msg) (kind : SysKind) (a b : Endpoint)
        → LivesAs (part_heard_of t me o (Some kind) (Some a) b m.payload (f.lives.lives s)) (frame_duty_of t me f m kind a b)
    duty_of_lives m kinds.Create x p =
        by_plainly (LivesAs (f.lives.lives s)) live_before (is_request t me x p) m.payload _ (λ h. let q = request_parts t me x p h in create_lives m p.slot.0 x q.0 q.1)
    duty_of_lives m kinds.Destroy x p =
        by_plainly (LivesAs (f.lives.lives s)) live_before (is_request t me x p) m.payload _ (λ h. let q = request_parts t me x p h in destroy_lives m p.slot.0 x q.0 q.1)
    duty_of_lives m kinds.CreateDone a b = by_plainly (LivesAs (f.lives.lives s)) live_before _ m.payload _ (λ h. record { lives = refl })
    duty_of_lives m kinds.CreateRefused a b = by_number (LivesAs (f.lives.lives s)) live_before _ m.payload _ (λ n. record { lives = refl })
    duty_of_lives m kinds.DestroyDone a b =
        by_number (LivesAs (f.lives.lives s)) live_before _ m.payload _ (λ n. by_natural (LivesAs (f.lives.lives s)) live_before n _ (λ k. record { lives = refl }))
    duty_of_lives m kinds.Import a b = by_plainly (LivesAs (f.lives.lives s)) live_before _ m.payload _ (λ h. record { lives = refl })
    duty_of_lives m kinds.ImportDone a b = by_plainly (LivesAs (f.lives.lives s)) live_before _ m.payload _ (λ h. record { lives = refl })
    duty_of_lives m kinds.ImportRefused a b = by_number (LivesAs (f.lives.lives s)) live_before _ m.payload _ (λ n. record { lives = refl })
    duty_of_lives m kinds.ImportEnded a b = by_plainly (LivesAs (f.lives.lives s)) live_before _ m.payload _ (λ h. record { lives = refl })
    duty_of_lives m kinds.Deport a b = by_plainly (LivesAs (f.lives.lives s)) live_before _ m.payload _ (λ h. record { lives = refl })
    duty_of_lives m kinds.DeportDone a b = by_plainly (LivesAs (f.lives.lives s)) live_before _ m.payload _ (λ h. record { lives = refl })
    duty_of_lives m kinds.Announce a b =
        by_number (LivesAs (f.lives.lives s)) live_before _ m.payload _ (λ n. by_natural (LivesAs (f.lives.lives s)) live_before n _ (λ k. record { lives = refl }))
    duty_of_lives m kinds.Register a b = live_before
    duty_of_lives m kinds.Withdraw a b = live_before
    duty_of_lives m kinds.Bound a b = live_before
    duty_of_lives m kinds.Ended a b = live_before
    duty_of_lives m kinds.NameReply a b = live_before
    duty_of_lives m kinds.PartMake a b = part_make_lives (is_part_told t me a b) a m.payload (λ h. (part_told_parts t me a b h).0)
    duty_of_lives m kinds.PartEnd a b = part_end_lives (is_part_told t me a b) a m.payload (λ h. (part_told_parts t me a b h).0)

    none_lives : (m : Msg) (kind : SysKind) → f.lives.lives s ≡ part_heard_of t me o (Some kind) None m.target m.payload (f.lives.lives s)
    none_lives m kinds.PartMake = refl
    none_lives m kinds.PartEnd = refl
    none_lives m kind = refl

    duty_from_lives : (m : Msg) (kind : SysKind) (y : Option Endpoint)
        → (frame_duty_from t me f m kind y).frame.lives.lives s ≡ part_heard_of t me o (Some kind) y m.target m.payload (f.lives.lives s)
    duty_from_lives m kind None = none_lives m kind
    duty_from_lives m kind (Some a) = (duty_of_lives m kind a m.target).lives

    pub frame_duty_lives : (m : Msg) (kind : SysKind)
        → (frame_duty t me f kind m).frame.lives.lives s ≡ part_heard_of t me o (Some kind) m.source m.target m.payload (f.lives.lives s)
    unfolding frame_duty
    frame_duty_lives m kind = duty_from_lives m kind m.source
