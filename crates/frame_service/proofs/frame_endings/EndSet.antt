-- What came of a Destroy or a PartEnd.
use Rattle.std.proofs.Common.{◌≡◌, ℕ, zero, suc, ◌+◌, ◌<◌, ◌≤◌, Bool, true, false, not, ◌&&◌, ◌||◌, cond, List, [], ◌∷◌, ◌++◌, map, filter, reverse, length, pos, Some, None, refl, sym, ap, ◌∙◌, append_assoc, arith}
use Rattle.std.proofs.Math.Path.{fun_ext}
use Rattle.std.specs.Prelude.{All}
use Rattle.std.specs.List.{flat_map, range_with_len}
use Rattle.std.proofs.lemmas.List.{reverse-append, append-nil}
use Rattle.std.proofs.lemmas.List.Elements.{All-nil, All-cons, All-head, All-tail, All-push, All-map, All-filter, All-same}
use Rattle.std.proofs.lemmas.List.Folds.{flat_map-map}
use Rattle.room_kinds.specs.declared.message.Msg.{Msg}
use Rattle.room_kinds.specs.declared.numbers.Incarnation.{Incarnation}
use Rattle.room_kinds.specs.declared.numbers.Endpoint.{Endpoint}
use Rattle.room_kinds.specs.declared.system.SysKind.TheVariants as kinds
use Rattle.room_wiring.specs.declared.tables.Tables.{Tables}
use Rattle.actor_duties.specs.Words.{frame_at, frame_of, whose, slots_of}
use Rattle.actor_duties.specs.Messages.{reply, coded, NotHere}
use Rattle.actor_duties.specs.State.{Lives, Frame, ImportPlace}
use Rattle.actor_duties.specs.Lives.{counts_as_live, last_of, goes_down, ended_slots, lives_ended}
use Rattle.actor_duties.specs.Frame.{FrameDone, destroy, part_end, end_set_ended, frame_ended, end_messages, part_ends}
use Rattle.frame_lives.specs.declared.row.Row.{Row}
use Rattle.frame_lives.specs.declared.done.DutyDone.{DutyDone}
use Rattle.frame_lives.specs.Known.{Known}
use Rattle.frame_lives.specs.Shown.{shown, with_lives}
use Rattle.frame_lives.specs.Steps.{is_among, lives_without}
use Rattle.frame_lives.proofs.Gone.{among_ended, without_ended}
use Rattle.frame_service.specs.frame_imports.frame_peers.Parts.{frame_by}
use Rattle.frame_service.specs.frame_imports.import_places.Lending.{Kept, Lending, lending, forgotten_where}
use Rattle.frame_service.specs.frame_endings.Ends.{end_sends, part_sends, left_of}
use Rattle.frame_service.specs.declared.state.FrameState.{FrameState}
use Rattle.frame_service.specs.State.{frame_in, IsFrameOf}
use Rattle.frame_service.specs.Done.{ended_left, IsDone, IsSetEnded}

range_below : (a n b : ℕ) → a + n ≤ b → All (λ s. s < b) (range_with_len a n)
range_below a zero b l = All-nil (λ s. s < b)
range_below a (suc n) b l = All-cons (λ s. s < b) a (range_with_len (a + 1) n) (omega arith) (range_below (a + 1) n b (omega arith))

all_reverse : (b : ℕ) (xs : List ℕ) → All (λ s. s < b) xs → All (λ s. s < b) (reverse xs)
all_reverse b [] h = h
all_reverse b (x ∷ xs) h =
    All-same (λ s. s < b) (reverse (x ∷ xs)) (reverse xs ++ x ∷ []) (reverse-append (x ∷ []) xs)
    (All-push (λ s. s < b) (reverse xs) x (all_reverse b xs (All-tail (λ s. s < b) x xs h)) (All-head (λ s. s < b) x xs h))

-- the slots of what ends are there
pub ended_there : (t : Tables) (me : ℕ) (l : Lives) (o : ℕ) (xs : List Incarnation) → xs ≡ map (last_of l) (ended_slots t me l o) → All (λ (x : Incarnation). x.slot.0 < length t.slots) xs
unfolding ended_slots
ended_there t me l o xs is =
    let there : All (λ s. s < length t.slots) (ended_slots t me l o) =
    all_reverse (length t.slots) (filter (goes_down t me l o) (slots_of t))
    (All-filter (goes_down t me l o) (λ s. s < length t.slots) (slots_of t) (range_below 0 (length t.slots) (length t.slots) (omega arith))) in
    All-same (λ (x : Incarnation). x.slot.0 < length t.slots) xs (map (last_of l) (ended_slots t me l o)) is
    (All-map (λ (x : Incarnation). x.slot.0 < length t.slots) (last_of l) (ended_slots t me l o) there)

sends_same : (t : Tables) (me : ℕ) (places : ℕ → ImportPlace) (plugs : ℕ → List Incarnation) (old : Known) (down : List ℕ)
    → flat_map (end_sends t me places plugs) (map (last_of old.lives) down) ≡ flat_map (end_messages t me (frame_by old places plugs)) down
unfolding end_messages
sends_same t me places plugs old down = flat_map-map (end_sends t me places plugs) (last_of old.lives) down

parts_same : (t : Tables) (me : ℕ) (f : Frame) (down : List ℕ) → flat_map (part_sends t me) (map (last_of f.lives) down) ≡ flat_map (part_ends t me f) down
unfolding part_ends
parts_same t me f down = flat_map-map (part_sends t me) (last_of f.lives) down

-- the state with other rows of slots, and other tables of what is lent
abbrev pub with_tables : FrameState → List Row → Kept → FrameState
with_tables s rows k = record s { lives = rows; imports = k }

ended_frame : (t : Tables) (s : FrameState) (o : ℕ) (rows : List Row) (k : Kept)
    → shown rows ≡ with_lives (shown s.lives) (lives_ended t s.me.0 o (shown s.lives).lives)
    → lending k ≡ forgotten_where t (goes_down t s.me.0 (shown s.lives).lives o) (lending s.imports)
    → frame_in (with_tables s rows k) ≡ frame_ended t s.me.0 o (frame_in s)
unfolding frame_in frame_ended
ended_frame t s o rows k lives lent =
    ap (λ (j : Known). frame_by j (lending k).places (lending k).plugs) lives
    ∙ ap (λ (j : Lending). frame_by (with_lives (shown s.lives) (lives_ended t s.me.0 o (shown s.lives).lives)) j.places j.plugs) lent

joined : (t : Tables) (me : ℕ) (f : Frame) (o : ℕ) (before middle out : List Msg)
    → middle ≡ before ++ flat_map (end_messages t me f) (ended_slots t me f.lives o)
    → out ≡ middle ++ flat_map (part_ends t me f) (ended_slots t me f.lives o)
    → out ≡ before ++ (part_end t me f o).sent
unfolding part_end end_set_ended
joined t me f o before middle out first then =
    then ∙ ap (λ (ms : List Msg). ms ++ flat_map (part_ends t me f) (ended_slots t me f.lives o)) first
    ∙ append_assoc before (flat_map (end_messages t me f) (ended_slots t me f.lives o)) (flat_map (part_ends t me f) (ended_slots t me f.lives o))

frame_is : (t : Tables) (me : ℕ) (f : Frame) (o : ℕ) → (part_end t me f o).frame ≡ frame_ended t me o f
unfolding part_end end_set_ended
frame_is t me f o = refl

ended_is : (t : Tables) (me : ℕ) (f : Frame) (o : ℕ) → (part_end t me f o).ended ≡ map (last_of f.lives) (ended_slots t me f.lives o)
unfolding part_end end_set_ended
ended_is t me f o = refl

-- the end set has ended
pub set_ended : (t : Tables) (s : FrameState) (rows : List Row) (k : Kept) (o : ℕ) (before middle out : List Msg) (ended : List Incarnation) → IsFrameOf t s
    → ended ≡ map (last_of (shown s.lives).lives) (ended_slots t s.me.0 (shown s.lives).lives o)
    → middle ≡ before ++ flat_map (end_sends t s.me.0 (lending s.imports).places (lending s.imports).plugs) ended
    → out ≡ middle ++ flat_map (part_sends t s.me.0) ended
    → shown rows ≡ with_lives (shown s.lives) (lives_without ended (shown s.lives).lives)
    → lending k ≡ forgotten_where t (is_among ended) (lending s.imports)
    → IsSetEnded t s (with_tables s rows k) o before out ended
unfolding frame_in
set_ended t s rows k o before middle out ended fits who first then lives lent =
    let f : Frame = frame_by (shown s.lives) (lending s.imports).places (lending s.imports).plugs in
    let down = ended_slots t s.me.0 (shown s.lives).lives o in
    let l = (shown s.lives).lives in
    let lives_is : shown rows ≡ with_lives (shown s.lives) (lives_ended t s.me.0 o l) =
    lives ∙ ap (λ (xs : List Incarnation). with_lives (shown s.lives) (lives_without xs l)) who ∙ ap (with_lives (shown s.lives)) (without_ended t s.me.0 l o) in
    let lent_is : lending k ≡ forgotten_where t (goes_down t s.me.0 l o) (lending s.imports) =
    lent ∙ ap (λ (xs : List Incarnation). forgotten_where t (is_among xs) (lending s.imports)) who
    ∙ ap (λ (test : ℕ → Bool). forgotten_where t test (lending s.imports)) (fun_ext (among_ended t s.me.0 l o)) in
    record {
      fits = record {
        order = fits.order;
        me = fits.me;
        runs = fits.runs;
        lives = ap (λ (j : Known). j.slots) lives ∙ fits.lives;
      };
      me = refl;
      frame = ended_frame t s o rows k lives_is lent_is ∙ sym (frame_is t s.me.0 f o);
      sent =
          joined t s.me.0 f o before middle out
          (first ∙ ap (λ (xs : List Incarnation). before ++ flat_map (end_sends t s.me.0 (lending s.imports).places (lending s.imports).plugs) xs) who
          ∙ ap (λ (ms : List Msg). before ++ ms) (sends_same t s.me.0 (lending s.imports).places (lending s.imports).plugs (shown s.lives) down))
          (then ∙ ap (λ (xs : List Incarnation). middle ++ flat_map (part_sends t s.me.0) xs) who
          ∙ ap (λ (ms : List Msg). middle ++ ms) (parts_same t s.me.0 f down));
      who = who ∙ sym (ended_is t s.me.0 f o);
    }

neither : (a b : Bool) → (a && b) ≡ false → (not a || not b) ≡ true
neither true b h = ap not h
neither false b h = refl

both : (a b : Bool) → (a && b) ≡ true → (not a || not b) ≡ false
both true b h = ap not h
both false b h = absurd cc

-- a Destroy that is refused
abbrev refusal : Tables → ℕ → Frame → Msg → ℕ → Endpoint → FrameDone
refusal t me f m o x = record { frame = f; sent = []; made = []; ended = []; last = Some (reply me m kinds.DestroyDone (frame_at o 0) x (coded NotHere)) }

-- a Destroy that is done
abbrev ending : Tables → ℕ → Frame → Msg → ℕ → Endpoint → FrameDone
ending t me f m o x = record (part_end t me f o) { made = []; last = Some (reply me m kinds.DestroyDone (frame_of (last_of f.lives o)) x (pos 0 ∷ [])) }

destroy_by : (t : Tables) (me : ℕ) (f : Frame) (m : Msg) (o : ℕ) (x : Endpoint) (b : Bool) → (not (counts_as_live t me f.lives (whose x)) || not (f.lives.lives o)) ≡ b
    → destroy t me f m o x ≡ cond b (refusal t me f m o x) (ending t me f m o x)
unfolding destroy part_end end_set_ended
destroy_by t me f m o x b h = ap (λ b. cond b (refusal t me f m o x) (ending t me f m o x)) h

-- a Destroy is refused
pub refused_done : (t : Tables) (s : FrameState) (m : Msg) (o : ℕ) (x : Endpoint) (answer : Msg) (r : FrameDone) (out : List Msg) (d : DutyDone) → IsFrameOf t s
    → (counts_as_live t s.me.0 (shown s.lives).lives (whose x) && (shown s.lives).lives.lives o) ≡ false
    → answer ≡ reply s.me.0 m kinds.DestroyDone (frame_at o 0) x (pos 3 ∷ [])
    → d ≡ ended_left [] (Some answer) → r ≡ destroy t s.me.0 (frame_in s) m o x → IsDone t s s r out out d
unfolding frame_in
refused_done t s m o x answer r out d fits h is left whole =
    let f : Frame = frame_by (shown s.lives) (lending s.imports).places (lending s.imports).plugs in
    let done : r ≡ refusal t s.me.0 f m o x =
    whole ∙ destroy_by t s.me.0 f m o x true (neither (counts_as_live t s.me.0 f.lives (whose x)) (f.lives.lives o) h) in
    record {
      fits = fits;
      me = refl;
      frame = sym (ap (λ (r : FrameDone). r.frame) done);
      sent = sym (append-nil out) ∙ sym (ap (λ (r : FrameDone). out ++ r.sent) done);
      done = left ∙ ap (λ (a : Msg). ended_left [] (Some a)) is ∙ sym (ap left_of done);
    }

-- a Destroy is done
pub destroy_is_done : (t : Tables) (s new : FrameState) (m : Msg) (o : ℕ) (x : Endpoint) (answer : Msg) (r : FrameDone) (before out : List Msg) (ended : List Incarnation) (d : DutyDone)
    → IsSetEnded t s new o before out ended
    → (counts_as_live t s.me.0 (shown s.lives).lives (whose x) && (shown s.lives).lives.lives o) ≡ true
    → answer ≡ reply s.me.0 m kinds.DestroyDone (frame_of (last_of (shown s.lives).lives o)) x (pos 0 ∷ [])
    → d ≡ ended_left ended (Some answer) → r ≡ destroy t s.me.0 (frame_in s) m o x → IsDone t s new r before out d
unfolding frame_in
destroy_is_done t s new m o x answer r before out ended d came h is left whole =
    let f : Frame = frame_by (shown s.lives) (lending s.imports).places (lending s.imports).plugs in
    let done : r ≡ ending t s.me.0 f m o x =
    whole ∙ destroy_by t s.me.0 f m o x false (both (counts_as_live t s.me.0 f.lives (whose x)) (f.lives.lives o) h) in
    record {
      fits = came.fits;
      me = came.me;
      frame = came.frame ∙ sym (ap (λ (r : FrameDone). r.frame) done);
      sent = came.sent ∙ sym (ap (λ (r : FrameDone). before ++ r.sent) done);
      done =
          left ∙ ap (λ (a : Msg). ended_left ended (Some a)) is
          ∙ ap (λ (xs : List Incarnation). ended_left xs (Some (reply s.me.0 m kinds.DestroyDone (frame_of (last_of f.lives o)) x (pos 0 ∷ [])))) came.who
          ∙ sym (ap left_of done);
    }

nothing_made : (t : Tables) (me : ℕ) (f : Frame) (o : ℕ) → left_of (part_end t me f o) ≡ ended_left (part_end t me f o).ended None
unfolding part_end end_set_ended
nothing_made t me f o = refl

-- a PartEnd is done
pub part_end_is_done : (t : Tables) (s new : FrameState) (o : ℕ) (r : FrameDone) (before out : List Msg) (ended : List Incarnation) (d : DutyDone)
    → IsSetEnded t s new o before out ended → d ≡ ended_left ended None → r ≡ part_end t s.me.0 (frame_in s) o → IsDone t s new r before out d
part_end_is_done t s new o r before out ended d came left whole = record {
  fits = came.fits;
  me = came.me;
  frame = came.frame ∙ sym (ap (λ (r : FrameDone). r.frame) whole);
  sent = came.sent ∙ sym (ap (λ (r : FrameDone). before ++ r.sent) whole);
  done =
      left ∙ ap (λ (xs : List Incarnation). ended_left xs None) came.who ∙ sym (nothing_made t s.me.0 (frame_in s) o)
      ∙ sym (ap left_of whole);
}
