-- A turn, for the layer service, is a duty of its own; or actors come up or go down, and actors that live
-- here ask: whatever holds of what they ask, one after another, holds of the turn.
use Rattle.std.proofs.Common.{◌≡◌, ◌⊎◌, inl, inr, ℕ, ◌==◌, ◌&&◌, ◌||◌, Bool, true, false, not, if◌then◌else◌, List, [], ◌∷◌, ◌++◌, map, filter, slice_get, Option, Some, None, ℤ, pos, refl, sym, ap, ◌∙◌, subst, append-nil, append_assoc, eq-eqb}
use Rattle.std.specs.List.{AllByRecursion}
use Rattle.std.proofs.lemmas.Bool.{and_parts}
use Rattle.room_kinds.specs.declared.message.Msg.{Msg}
use Rattle.room_kinds.specs.declared.numbers.Incarnation.{Incarnation}
use Rattle.room_kinds.specs.declared.numbers.Endpoint.{Endpoint}
use Rattle.room_kinds.specs.declared.system.SysKind.{SysKind}
use Rattle.room_kinds.specs.declared.system.SysKind.TheVariants as kinds
use Rattle.room_kinds.specs.declared.command.Command.{Command}
use Rattle.room_kinds.specs.declared.command.Command.TheVariants as commands
use Rattle.room_kinds.specs.declared.command.FrameCommand.TheVariants as frames
use Rattle.room_kinds.specs.declared.command.NameCommand.{NameCommand}
use Rattle.journal.specs.declared.entry.Did.TheVariants as did
use Rattle.room_wiring.specs.declared.tables.Tables.{Tables}
use Rattle.actor_merge.specs.Parties.{Treated}
use Rattle.actor_duties.specs.Words.{updated, incarnation, frame_at, frame_of, whose, is_own, slots_of}
use Rattle.actor_duties.specs.State.{Lives, Frame, Links, Done}
use Rattle.actor_duties.specs.Messages.{reply, coded, NotHere, Occupied}
use Rattle.actor_duties.specs.Lives.{is_live, last_of, answered, counts_as_live, made_slots, lives_made, lives_ended, ended_slots, create, made, part_make}
use Rattle.actor_duties.specs.Frame.{FrameDone, nothing, with_lives, end_set_ended, frame_ended, destroy, part_end, frame_duty_of, frame_duty_from, frame_duty, frame_request}
use Rattle.actor_duties.specs.Names.{table_duty}
use Rattle.actor_duties.specs.Links.{links_duty, name_request, end_of}
use Rattle.actor_duties.specs.Commands.{Content}
use Rattle.actor_world.specs.Behaviour.{Behaviour}
use Rattle.actor_world.specs.Body.{Body, Doing, sent_at, apply_all}
use Rattle.actor_world.specs.Turns.{all_kinds, doing, treated, begun, all_begun, gone, all_gone, closing, with_frame, duty, system_done, moved, handled, nobody_there, is_meant, dispatched, dispatch, treat}
use Rattle.actor_world.specs.Start.{lives_from_start, first_lives, first_links, first_body, first_actors, Starting, started, all_started, starting, first_state}
use Rattle.actor_world.specs.Directories.{SendsOpenly, IsOpen}
use Rattle.law_agreement.proofs.Lists.{all_passed}
use Rattle.law_agreement.proofs.Duties.{by_plainly, by_number, by_natural}
use Rattle.law_agreement.proofs.Walking.{IsHere, frame_duty_makes}
use Rattle.law_names.specs.Asking.{AllAsk}
use Rattle.law_names.proofs.OffNames.{IsOffNames, AllOffNames, frame_duty_off, frame_request_off, send_off, broadcast_off}
use Rattle.law_agreement.proofs.Carrying.{request_lives}

-- what a duty of the frame service does to lives: nothing; an optional slot is made; or it ends
pub data LivesBy (t : Tables) (me : ℕ) (l : Lives) (r : FrameDone) : Type 0 where
  stays : r.frame.lives ≡ l → r.made ≡ [] → r.ended ≡ [] → LivesBy t me l r
  makes : (o : ℕ) → r.frame.lives ≡ lives_made t me o l → r.made ≡ map (last_of (lives_made t me o l)) (made_slots t me l o) → r.ended ≡ [] → LivesBy t me l r
  ends : (o : ℕ) → r.frame.lives ≡ lives_ended t me o l → r.made ≡ [] → r.ended ≡ map (last_of l) (ended_slots t me l o) → LivesBy t me l r

-- what closes a duty is off names
abbrev pub IsOffLast : Option Msg → Type 0
IsOffLast None = Unit {0}
IsOffLast (Some m) = IsOffNames m

-- a duty of the frame service, for the layer service
pub record Deals (t : Tables) (me : ℕ) (l : Lives) (r : FrameDone) : Type 0 where
  pub lives : LivesBy t me l r
  pub last : IsOffLast r.last

module _ (t : Tables) (me : ℕ) (f : Frame) where
  abbrev DealsSo : FrameDone → Type 0
  DealsSo r = Deals t me f.lives r

  deals_none : DealsSo (nothing f)
  deals_none = record { lives = stays refl refl refl; last = tt }

  create_deals : (m : Msg) (o : ℕ) (x : Endpoint) → DealsSo (with_lives f (create t me f.lives m o x))
  unfolding create made part_make
  create_deals m o x = go (counts_as_live t me f.lives (whose x)) (f.lives.lives o)
    where
      go : (a b : Bool) → DealsSo (with_lives f (
          if not a then answered f.lives (reply me m kinds.CreateRefused (frame_at o 0) x (coded NotHere))
          else if b then answered f.lives (reply me m kinds.CreateRefused (frame_at o 0) x (coded Occupied))
          else made t me f.lives m o x))
      go false b = record { lives = stays refl refl refl; last = refl }
      go true true = record { lives = stays refl refl refl; last = refl }
      go true false = record { lives = makes o refl refl refl; last = refl }

  part_deals : (o : ℕ) → DealsSo (with_lives f (part_make t me f.lives o))
  unfolding part_make
  part_deals o = record { lives = makes o refl refl refl; last = tt }

  destroy_deals : (m : Msg) (o : ℕ) (x : Endpoint) → DealsSo (destroy t me f m o x)
  unfolding destroy end_set_ended frame_ended
  destroy_deals m o x = go (not (counts_as_live t me f.lives (whose x)) || not (f.lives.lives o))
    where
      go : (a : Bool) → DealsSo (
          if a then record { frame = f; sent = []; made = []; ended = []; last = Some (reply me m kinds.DestroyDone (frame_at o 0) x (coded NotHere)) }
          else end_set_ended t me f o (Some (reply me m kinds.DestroyDone (frame_of (last_of f.lives o)) x (pos 0 ∷ []))))
      go true = record { lives = stays refl refl refl; last = refl }
      go false = record { lives = ends o refl refl refl; last = refl }

  part_end_deals : (o : ℕ) → DealsSo (part_end t me f o)
  unfolding part_end end_set_ended frame_ended
  part_end_deals o = record { lives = ends o refl refl refl; last = tt }

  duty_of_deals : (m : Msg) (kind : SysKind) (a b : Endpoint) → DealsSo (frame_duty_of t me f m kind a b)
  duty_of_deals m kinds.Create a b = by_plainly t me f DealsSo deals_none _ m.payload _ (λ h. create_deals m b.slot.0 a)
  duty_of_deals m kinds.Destroy a b = by_plainly t me f DealsSo deals_none _ m.payload _ (λ h. destroy_deals m b.slot.0 a)
  duty_of_deals m kinds.CreateDone a b = by_plainly t me f DealsSo deals_none _ m.payload _ (λ h. record { lives = stays refl refl refl; last = tt })
  duty_of_deals m kinds.CreateRefused a b = by_number t me f DealsSo deals_none _ m.payload _ (λ n. record { lives = stays refl refl refl; last = tt })
  duty_of_deals m kinds.DestroyDone a b =
      by_number t me f DealsSo deals_none _ m.payload _
      (λ n. by_natural t me f DealsSo deals_none n _ (λ k. record { lives = stays refl refl refl; last = tt }))
  duty_of_deals m kinds.Import a b = by_plainly t me f DealsSo deals_none _ m.payload _ (λ h. record { lives = stays refl refl refl; last = tt })
  duty_of_deals m kinds.ImportDone a b = by_plainly t me f DealsSo deals_none _ m.payload _ (λ h. record { lives = stays refl refl refl; last = tt })
  duty_of_deals m kinds.ImportRefused a b = by_number t me f DealsSo deals_none _ m.payload _ (λ n. record { lives = stays refl refl refl; last = tt })
  duty_of_deals m kinds.ImportEnded a b = by_plainly t me f DealsSo deals_none _ m.payload _ (λ h. record { lives = stays refl refl refl; last = tt })
  duty_of_deals m kinds.Deport a b = by_plainly t me f DealsSo deals_none _ m.payload _ (λ h. record { lives = stays refl refl refl; last = tt })
  duty_of_deals m kinds.DeportDone a b = by_plainly t me f DealsSo deals_none _ m.payload _ (λ h. record { lives = stays refl refl refl; last = tt })
  duty_of_deals m kinds.Announce a b =
      by_number t me f DealsSo deals_none _ m.payload _
      (λ n. by_natural t me f DealsSo deals_none n _ (λ k. record { lives = stays refl refl refl; last = tt }))
  duty_of_deals m kinds.Register a b = deals_none
  duty_of_deals m kinds.Withdraw a b = deals_none
  duty_of_deals m kinds.Bound a b = deals_none
  duty_of_deals m kinds.Ended a b = deals_none
  duty_of_deals m kinds.NameReply a b = deals_none
  duty_of_deals m kinds.PartMake a b = by_plainly t me f DealsSo deals_none _ m.payload _ (λ h. part_deals a.slot.0)
  duty_of_deals m kinds.PartEnd a b = by_plainly t me f DealsSo deals_none _ m.payload _ (λ h. part_end_deals a.slot.0)

  duty_from_deals : (m : Msg) (kind : SysKind) (o : Option Endpoint) → DealsSo (frame_duty_from t me f m kind o)
  duty_from_deals m kind None = deals_none
  duty_from_deals m kind (Some a) = duty_of_deals m kind a m.target

  pub frame_duty_deals : (m : Msg) (kind : SysKind) → Deals t me f.lives (frame_duty t me f kind m)
  unfolding frame_duty
  frame_duty_deals m kind = duty_from_deals m kind m.source

-- actors end one after another: their names are withdrawn, their registrations and links go
abbrev pub all_ended : Tables → ℕ → List Incarnation → Links → Done Links
all_ended t me [] l = record { now = l; sent = [] }
all_ended t me (x ∷ xs) l =
    let r = end_of t me l x in
    let q = all_ended t me xs r.now in
    record { now = q.now; sent = r.sent ++ q.sent }

-- what messages off names, and requests on names of actors here, do to registrations and links, sending
-- these, is so, and so is one after another
pub record IsNameWalk (t : Tables) (me : ℕ) (Asks : Incarnation → NameCommand → Type 0) (R : Lives → Links → List Msg → Links → Type 0) : Type 0 where
  pub two : (l : Lives) (a b c : Links) (x y : List Msg) → R l a x b → R l b y c → R l a (x ++ y) c
  pub off : (l : Lives) (a : Links) (ms : List Msg) → AllOffNames ms → R l a ms a
  pub request : (l : Lives) (a : Links) (x : Incarnation) (c : NameCommand) → IsHere t me l x → Asks x c
      → R l a (name_request t me a x c).sent (name_request t me a x c).now

-- a behaviour whose actors ask so
pub record AsksSo {M : Type 0} (Asks : Incarnation → NameCommand → Type 0) (model : Behaviour M) : Type 0 where
  pub begin : (x : Incarnation) → AllAsk (Asks x) (model.begin x).commands
  pub handle : (x : Incarnation) (machine : M) (m : Msg) → AllAsk (Asks x) (model.handle x machine m).commands

-- a system message of this kind
abbrev pub IsOf : Msg → SysKind → Type 0
IsOf m kind = ((m.prio.0 == 0) ≡ true) × (slice_get all_kinds m.signal ≡ Some kind)

-- whether a kind is one that the name table treats
abbrev pub is_table_kind : SysKind → Bool
is_table_kind kinds.Register = true
is_table_kind kinds.Withdraw = true
is_table_kind _ = false

-- whether a kind is one that registrations and links hear
abbrev pub is_links_kind : SysKind → Bool
is_links_kind kinds.Bound = true
is_links_kind kinds.Ended = true
is_links_kind kinds.NameReply = true
is_links_kind _ = false

-- what registrations and links make of a message, at the owner of its target
abbrev pub links_hear : {M : Type 0} → Tables → ℕ → Body M → SysKind → Msg → Done Links
links_hear t me b kind m = links_duty t me b.links (is_own t me m.target.slot.0 && is_live b.frame.lives (whose m.target)) kind m

module _ {M : Type 0} (t : Tables) (me : ℕ) (Asks : Incarnation → NameCommand → Type 0) (R : Lives → Links → List Msg → Links → Type 0) where
  -- what a duty of the frame service leads to: the actors that it made ask, those that it ended are withdrawn
  pub record Follows (b : Body M) (r : FrameDone) (sent : List Msg) (next : Body M) : Type 0 where
    pub asked : List Msg
    pub links : Links
    pub last : List Msg
    pub sends : sent ≡ r.sent ++ (asked ++ ((all_ended t me r.ended links).sent ++ last))
    pub asks : R r.frame.lives b.links asked links
    pub after : next.links ≡ (all_ended t me r.ended links).now
    pub lives : next.frame.lives ≡ r.frame.lives
    pub table : next.table ≡ b.table
    pub off : AllOffNames last
    -- where actors ended none came up
    pub alone : (r.ended ≡ []) ⊎ ((asked ≡ []) × (links ≡ b.links))

  -- what a turn does, for the layer service: the name table treats its message; registrations and links hear
  -- it; or it isn't on names
  pub data Turns (b : Body M) (m : Msg) (r : Treated (Body M)) : Type 0 where
    treats : (kind : SysKind) → is_table_kind kind ≡ true → IsOf m kind → r.body ≡ record b { table = (table_duty t me b.table kind m).now }
        → r.sent ≡ (table_duty t me b.table kind m).sent → Turns b m r
    hears : (kind : SysKind) → is_links_kind kind ≡ true → IsOf m kind → r.body ≡ record b { links = (links_hear t me b kind m).now }
        → r.sent ≡ (links_hear t me b kind m).sent → Turns b m r
    leads : (d : FrameDone) → IsOffNames m → Deals t me b.frame.lives d → AllOffNames d.sent → Follows b d r.sent r.body → Turns b m r

  module _ (walk : IsNameWalk t me Asks R) where
    -- from d to e the layer service goes on so, and lives and the name table stay
    record Walks (d e : Doing M) : Type 0 where
      pub more : List Msg
      pub sent : e.sent ≡ d.sent ++ more
      pub does : R d.body.frame.lives d.body.links more e.body.links
      pub lives : e.body.frame.lives ≡ d.body.frame.lives
      pub table : e.body.table ≡ d.body.table

    stands : (d e : Doing M) (ms : List Msg) → e.sent ≡ d.sent ++ ms → e.body.links ≡ d.body.links → e.body.frame.lives ≡ d.body.frame.lives
        → e.body.table ≡ d.body.table → AllOffNames ms → Walks d e
    stands d e ms sent same lives table off =
        record {
          more = ms;
          sent = sent;
          does = subst (λ (z : Links). R d.body.frame.lives d.body.links ms z) (sym same) (walk.off d.body.frame.lives d.body.links ms off);
          lives = lives;
          table = table;
        }

    goes_on : (d e f : Doing M) → Walks d e → Walks e f → Walks d f
    goes_on d e f h k =
        record {
          more = h.more ++ k.more;
          sent = k.sent ∙ ap (λ (z : List Msg). z ++ k.more) h.sent ∙ append_assoc d.sent h.more k.more;
          does = walk.two d.body.frame.lives d.body.links e.body.links f.body.links h.more k.more h.does
              (subst (λ (z : Lives). R z e.body.links k.more f.body.links) h.lives k.does);
          lives = k.lives ∙ h.lives;
          table = k.table ∙ h.table;
        }

    sent_off : (d : Doing M) (x : Incarnation) (p : ℕ) (k : Option ℤ) (c : Content) → (c.prio.0 == 0) ≡ false → AllOffNames (sent_at t me d x p k c).messages
    sent_off d x p (Some k) c h = send_off t me d.body.frame d.body.links x p c h k
    sent_off d x p None c h = broadcast_off t me d.body.frame d.body.links x p c h

    apply_all_walks : (x : Incarnation) (m : Option Msg) (cs : List Command) → SendsOpenly cs → AllAsk (Asks x) cs → (d : Doing M) → IsHere t me d.body.frame.lives x
        → Walks d (apply_all t me x m cs d)
    apply_all_walks x m [] clear ask d here = stands d d [] (sym (append-nil d.sent)) refl refl refl tt
    apply_all_walks x m (commands.Send p k signal payload prio ∷ cs) clear ask d here =
        let c : Content = record { signal = signal; payload = payload; prio = prio } in
        goes_on d _ _ (stands d _ (sent_at t me d x p k c).messages refl refl refl refl (sent_off d x p k c clear.0)) (apply_all_walks x m cs clear.1 ask _ here)
    apply_all_walks x m (commands.Defer ∷ cs) clear ask d here =
        goes_on d _ _ (stands d _ [] (sym (append-nil d.sent)) refl refl refl tt) (apply_all_walks x m cs clear ask _ here)
    apply_all_walks x m (commands.Recall ∷ cs) clear ask d here =
        goes_on d _ _ (stands d _ [] (sym (append-nil d.sent)) refl refl refl tt) (apply_all_walks x m cs clear ask _ here)
    apply_all_walks x m (commands.RecallAll ∷ cs) clear ask d here =
        goes_on d _ _ (stands d _ [] (sym (append-nil d.sent)) refl refl refl tt) (apply_all_walks x m cs clear ask _ here)
    apply_all_walks x m (commands.Frame c ∷ cs) clear ask d here =
        let same : (frame_request t me d.body.frame x c).now.lives ≡ d.body.frame.lives = request_lives t me d.body.frame x c in
        goes_on d _ _ (stands d _ (frame_request t me d.body.frame x c).sent refl refl same refl (frame_request_off t me d.body.frame x c))
        (apply_all_walks x m cs clear ask _ (subst (λ (z : Lives). IsHere t me z x) (sym same) here))
    apply_all_walks x m (commands.Name c ∷ cs) clear ask d here =
        goes_on d _ _
        (record { more = (name_request t me d.body.links x c).sent; sent = refl; does = walk.request d.body.frame.lives d.body.links x c here ask.0; lives = refl; table = refl })
        (apply_all_walks x m cs clear ask.1 _ here)

    -- actors that end one after another
    record Ends (xs : List Incarnation) (d e : Doing M) : Type 0 where
      pub sent : e.sent ≡ d.sent ++ (all_ended t me xs d.body.links).sent
      pub links : e.body.links ≡ (all_ended t me xs d.body.links).now
      pub lives : e.body.frame.lives ≡ d.body.frame.lives
      pub table : e.body.table ≡ d.body.table

    all_gone_ends : (xs : List Incarnation) (d : Doing M) → Ends xs d (all_gone t me xs d)
    all_gone_ends [] d = record { sent = sym (append-nil d.sent); links = refl; lives = refl; table = refl }
    all_gone_ends (x ∷ xs) d =
        let k = all_gone_ends xs (gone t me x d) in
        let r : Done Links = end_of t me d.body.links x in
        record { sent = k.sent ∙ append_assoc d.sent r.sent (all_ended t me xs r.now).sent; links = k.links; lives = k.lives; table = k.table }

    module _ (model : Behaviour M) (clear : IsOpen model) (ask : AsksSo Asks model) where
      begun_walks : (x : Incarnation) (d : Doing M) → IsHere t me d.body.frame.lives x → Walks d (begun model t me x d)
      begun_walks x d here =
          let k = apply_all_walks x None (model.begin x).commands (clear.begin x) (ask.begin x) _ here in
          record { more = k.more; sent = k.sent; does = k.does; lives = k.lives; table = k.table }

      all_begun_walks : (xs : List Incarnation) (d : Doing M) → AllByRecursion (IsHere t me d.body.frame.lives) xs → Walks d (all_begun model t me xs d)
      all_begun_walks [] d h = stands d d [] (sym (append-nil d.sent)) refl refl refl tt
      all_begun_walks (x ∷ xs) d h =
          let first = begun_walks x d h.0 in
          goes_on d _ _ first (all_begun_walks xs (begun model t me x d)
          (subst (λ (z : Lives). AllByRecursion (IsHere t me z) xs) (sym first.lives) h.1))

      -- what closes a duty
      closed : Option Msg → List Msg
      closed None = []
      closed (Some m) = m ∷ []

      closing_sent : (d : Doing M) (o : Option Msg) → (closing d o).sent ≡ d.sent ++ closed o
      unfolding closed
      closing_sent d None = sym (append-nil d.sent)
      closing_sent d (Some m) = refl

      closing_body : (d : Doing M) (o : Option Msg) → (closing d o).body ≡ d.body
      closing_body d None = refl
      closing_body d (Some m) = refl

      closed_off : (o : Option Msg) → IsOffLast o → AllOffNames (closed o)
      unfolding closed
      closed_off None h = tt
      closed_off (Some m) h = (h, tt)

      module _ (b : Body M) (r : FrameDone) (last : IsOffLast r.last) where
        -- the actors that are made, and after them those that end
        abbrev Final : List Incarnation → Doing M
        Final made = closing (all_gone t me r.ended (all_begun model t me made (record (doing b) { body = record b { frame = r.frame }; sent = r.sent }))) r.last

        -- none ends
        made_follows : AllByRecursion (IsHere t me r.frame.lives) r.made → r.ended ≡ [] → Follows b r (Final r.made).sent (Final r.made).body
        made_follows made ended =
            let start : Doing M = record (doing b) { body = record b { frame = r.frame }; sent = r.sent } in
            let middle : Doing M = all_begun model t me r.made start in
            let final : Doing M = all_gone t me r.ended middle in
            let begins = all_begun_walks r.made start made in
            let down = all_gone_ends r.ended middle in
            record {
              asked = begins.more;
              links = middle.body.links;
              last = closed r.last;
              sends = closing_sent final r.last
                  ∙ ap (λ (z : List Msg). z ++ closed r.last) (down.sent ∙ ap (λ (z : List Msg). z ++ (all_ended t me r.ended middle.body.links).sent) begins.sent)
                  ∙ append_assoc (r.sent ++ begins.more) (all_ended t me r.ended middle.body.links).sent (closed r.last)
                  ∙ append_assoc r.sent begins.more ((all_ended t me r.ended middle.body.links).sent ++ closed r.last);
              asks = begins.does;
              after = ap (λ (z : Body M). z.links) (closing_body final r.last) ∙ down.links;
              lives = ap (λ (z : Body M). z.frame.lives) (closing_body final r.last) ∙ down.lives ∙ begins.lives;
              table = ap (λ (z : Body M). z.table) (closing_body final r.last) ∙ down.table ∙ begins.table;
              off = closed_off r.last last;
              alone = inl ended;
            }

        -- none is made
        ended_follows : r.made ≡ [] → Follows b r (Final r.made).sent (Final r.made).body
        ended_follows none = subst (λ xs. Follows b r (Final xs).sent (Final xs).body) (sym none) here
          where
            here : Follows b r (Final []).sent (Final []).body
            here =
                let start : Doing M = record (doing b) { body = record b { frame = r.frame }; sent = r.sent } in
                let final : Doing M = all_gone t me r.ended start in
                let down = all_gone_ends r.ended start in
                record {
                  asked = [];
                  links = b.links;
                  last = closed r.last;
                  sends = closing_sent final r.last
                      ∙ ap (λ (z : List Msg). z ++ closed r.last) down.sent
                      ∙ append_assoc r.sent (all_ended t me r.ended b.links).sent (closed r.last);
                  asks = walk.off r.frame.lives b.links [] tt;
                  after = ap (λ (z : Body M). z.links) (closing_body final r.last) ∙ down.links;
                  lives = ap (λ (z : Body M). z.frame.lives) (closing_body final r.last) ∙ down.lives;
                  table = ap (λ (z : Body M). z.table) (closing_body final r.last) ∙ down.table;
                  off = closed_off r.last last;
                  alone = inr (refl, refl);
                }

        frame_follows : AllByRecursion (IsHere t me r.frame.lives) r.made → LivesBy t me b.frame.lives r → Follows b r (with_frame model t me b r).sent (with_frame model t me b r).body
        frame_follows made (stays same none ended) = made_follows made ended
        frame_follows made (makes o same up ended) = made_follows made ended
        frame_follows made (ends o same none ended) = ended_follows none

      module _ (b : Body M) (m : Msg) where
        -- what is done by a turn
        abbrev TurnsInto : Treated (Body M) → Type 0
        TurnsInto r = Turns b m r

        of_frame : (kind : SysKind) → IsOffNames m → TurnsInto (treated (with_frame model t me b (frame_duty t me b.frame kind m)) did.Duty)
        of_frame kind apart =
            let deals = frame_duty_deals t me b.frame m kind in
            leads (frame_duty t me b.frame kind m) apart deals (frame_duty_off t me b.frame m kind)
            (frame_follows b (frame_duty t me b.frame kind m) deals.last (frame_duty_makes t me b.frame m kind).made deals.lives)

        duty_turns : (kind : SysKind) → IsOf m kind → TurnsInto (treated (duty model t me b m kind) did.Duty)
        duty_turns kinds.Register is = treats kinds.Register refl is refl refl
        duty_turns kinds.Withdraw is = treats kinds.Withdraw refl is refl refl
        duty_turns kinds.Bound is = hears kinds.Bound refl is refl refl
        duty_turns kinds.Ended is = hears kinds.Ended refl is refl refl
        duty_turns kinds.NameReply is = hears kinds.NameReply refl is refl refl
        duty_turns kinds.Create is = of_frame kinds.Create (rw (is.0, is.1) refl)
        duty_turns kinds.CreateDone is = of_frame kinds.CreateDone (rw (is.0, is.1) refl)
        duty_turns kinds.CreateRefused is = of_frame kinds.CreateRefused (rw (is.0, is.1) refl)
        duty_turns kinds.Destroy is = of_frame kinds.Destroy (rw (is.0, is.1) refl)
        duty_turns kinds.DestroyDone is = of_frame kinds.DestroyDone (rw (is.0, is.1) refl)
        duty_turns kinds.Import is = of_frame kinds.Import (rw (is.0, is.1) refl)
        duty_turns kinds.ImportDone is = of_frame kinds.ImportDone (rw (is.0, is.1) refl)
        duty_turns kinds.ImportRefused is = of_frame kinds.ImportRefused (rw (is.0, is.1) refl)
        duty_turns kinds.ImportEnded is = of_frame kinds.ImportEnded (rw (is.0, is.1) refl)
        duty_turns kinds.Deport is = of_frame kinds.Deport (rw (is.0, is.1) refl)
        duty_turns kinds.DeportDone is = of_frame kinds.DeportDone (rw (is.0, is.1) refl)
        duty_turns kinds.Announce is = of_frame kinds.Announce (rw (is.0, is.1) refl)
        duty_turns kinds.PartMake is = of_frame kinds.PartMake (rw (is.0, is.1) refl)
        duty_turns kinds.PartEnd is = of_frame kinds.PartEnd (rw (is.0, is.1) refl)

        -- an actor alone does something
        by_actor : (r : Treated (Body M)) → IsOffNames m → R b.frame.lives b.links r.sent r.body.links → r.body.frame.lives ≡ b.frame.lives
            → r.body.table ≡ b.table → TurnsInto r
        by_actor r apart asks same table =
            leads (nothing b.frame) apart (record { lives = stays refl refl refl; last = tt }) tt
            (record {
              asked = r.sent;
              links = r.body.links;
              last = [];
              sends = sym (append-nil r.sent);
              asks = asks;
              after = refl;
              lives = same;
              table = table;
              off = tt;
              alone = inl refl;
            })

        nobody_turns : IsOffNames m → TurnsInto (nobody_there b m)
        nobody_turns apart = by_actor (nobody_there b m) apart (walk.off b.frame.lives b.links [] tt) refl refl

        system_turns : (o : Option SysKind) → (m.prio.0 == 0) ≡ true → slice_get all_kinds m.signal ≡ o → TurnsInto (treated (system_done model t me b m o) did.Duty)
        system_turns None zero is =
            by_actor (treated (doing b) did.Duty) (rw (zero, is) refl) (walk.off b.frame.lives b.links [] tt) refl refl
        system_turns (Some kind) zero is = duty_turns kind (zero, is)

        handled_turns : (x : Incarnation) (machine : M) → IsOffNames m → IsHere t me b.frame.lives x → TurnsInto (handled model t me b x m machine)
        unfolding handled
        handled_turns x machine apart here =
            let r = model.handle x machine m in
            let first : Doing M = record (doing b) { body = record b { machines = updated b.machines x.slot.0 (Some r.machine) }; notes = r.notes } in
            let k = apply_all_walks x (Some m) r.commands (clear.handle x machine m) (ask.handle x machine m) first here in
            by_actor _ apart (subst (λ (z : List Msg). R b.frame.lives b.links z (moved t me b x m r).body.links) (sym k.sent) k.does) k.lives k.table

        dispatched_turns : (o : Option M) → IsOffNames m → IsHere t me b.frame.lives (last_of b.frame.lives m.target.slot.0) → TurnsInto (dispatched model t me b m o)
        dispatched_turns None apart here = nobody_turns apart
        dispatched_turns (Some machine) apart here = handled_turns (last_of b.frame.lives m.target.slot.0) machine apart here

        dispatch_turns : IsOffNames m → TurnsInto (dispatch model t me b m)
        unfolding dispatch
        dispatch_turns apart = go (is_own t me m.target.slot.0 && b.frame.lives.lives m.target.slot.0) refl (not (is_meant b.frame m))
          where
            there : (is_own t me m.target.slot.0 && b.frame.lives.lives m.target.slot.0) ≡ true → IsHere t me b.frame.lives (last_of b.frame.lives m.target.slot.0)
            there e =
                let p = and_parts (is_own t me m.target.slot.0) (b.frame.lives.lives m.target.slot.0) e in
                (p.0, rw (p.1, eq-eqb (b.frame.lives.generation m.target.slot.0) (b.frame.lives.generation m.target.slot.0) refl) refl)

            go : (a : Bool) → (is_own t me m.target.slot.0 && b.frame.lives.lives m.target.slot.0) ≡ a → (c : Bool) → TurnsInto (
                if not a then nobody_there b m
                else if c then treated (doing b) (did.Stale (whose m.target))
                else dispatched model t me b m (b.machines m.target.slot.0))
            go false e c = nobody_turns apart
            go true e true = by_actor (treated (doing b) (did.Stale (whose m.target))) apart (walk.off b.frame.lives b.links [] tt) refl refl
            go true e false = dispatched_turns (b.machines m.target.slot.0) apart (there e)

        -- a whole turn
        pub treat_turns : Turns b m (treat model t me b m)
        unfolding treat
        treat_turns = go (m.prio.0 == 0) refl
          where
            go : (a : Bool) → (m.prio.0 == 0) ≡ a
                → TurnsInto (if a then treated (system_done model t me b m (slice_get all_kinds m.signal)) did.Duty else dispatch model t me b m)
            go true e = system_turns (slice_get all_kinds m.signal) e refl
            go false e = dispatch_turns (rw e refl)

      -- the start of a controller
      all_started_walks : (xs : List Incarnation) (s : Starting M) → AllByRecursion (IsHere t me s.doing.body.frame.lives) xs → Walks s.doing (all_started model t me xs s).doing
      all_started_walks [] s h = stands s.doing s.doing [] (sym (append-nil s.doing.sent)) refl refl refl tt
      all_started_walks (x ∷ xs) s h =
          let k = apply_all_walks x None (model.begin x).commands (clear.begin x) (ask.begin x) _ h.0 in
          let first : Walks s.doing (started model t me s x).doing = record { more = k.more; sent = k.sent; does = k.does; lives = k.lives; table = k.table } in
          goes_on s.doing _ _ first (all_started_walks xs (started model t me s x)
          (subst (λ (z : Lives). AllByRecursion (IsHere t me z) xs) (sym first.lives) h.1))

      start_walked : Walks (doing (first_body t me)) (starting model t me).doing
      unfolding starting first_actors
      start_walked = all_started_walks (first_actors t me) (record { doing = doing (first_body t me); entries = [] }) here
        where
          lives : (s : ℕ) → (is_own t me s && lives_from_start t s) ≡ true → IsHere t me (first_lives t me) (incarnation s 1)
          lives s e = ((and_parts (is_own t me s) (lives_from_start t s) e).0, rw e refl)

          each : (ss : List ℕ) → AllByRecursion (λ s. IsHere t me (first_lives t me) (incarnation s 1)) ss
              → AllByRecursion (IsHere t me (first_lives t me)) (map (λ s. incarnation s 1) ss)
          each [] h = tt
          each (s ∷ ss) h = (h.0, each ss h.1)

          here : AllByRecursion (IsHere t me (first_lives t me)) (first_actors t me)
          here =
              each (filter (λ s. is_own t me s && lives_from_start t s) (slots_of t))
              (all_passed (λ s. IsHere t me (first_lives t me) (incarnation s 1)) (λ s. is_own t me s && lives_from_start t s) lives (slots_of t))

      pub start_asks : R (first_lives t me) first_links (first_state model t me).outbox (first_state model t me).body.links
      start_asks =
          let k = start_walked in
          subst (λ (z : List Msg). R (first_lives t me) first_links z (first_state model t me).body.links) (sym k.sent) k.does

      pub start_lives : (first_state model t me).body.frame.lives ≡ first_lives t me
      start_lives = start_walked.lives

      pub start_table : (first_state model t me).body.table ≡ []
      start_table = start_walked.table
