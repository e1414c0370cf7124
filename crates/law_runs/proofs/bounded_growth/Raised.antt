-- Each duty of the frame service raises the last generation of a slot by at most one.
use Rattle.std.proofs.Common.{ℕ, ◌+◌, ◌≤◌, Bool, true, false, cond, List, [], ◌∷◌, Option, Some, None, arith}
use Rattle.std.specs.Prelude.{ℤ, pos, negsuc, not, ◌||◌}
use Rattle.room_kinds.specs.declared.message.Msg.{Msg}
use Rattle.room_kinds.specs.declared.numbers.Endpoint.{Endpoint}
use Rattle.room_kinds.specs.declared.system.SysKind.{SysKind}
use Rattle.room_kinds.specs.declared.system.SysKind.TheVariants as kinds
use Rattle.room_wiring.specs.declared.tables.Tables.{Tables}
use Rattle.actor_duties.specs.Words.{whose}
use Rattle.actor_duties.specs.State.{Lives, Frame}
use Rattle.actor_duties.specs.Lives.{Lived, counts_as_live, comes_up, lives_made, lives_ended, part_make, made, create}
use Rattle.actor_duties.specs.Frame.{FrameDone, nothing, frame_ended, end_set_ended, destroy, part_end, plainly, with_number, of_natural, frame_duty_of, frame_duty_from, frame_duty}

-- a duty that raises no generation by more than one
abbrev Raises : Frame → FrameDone → Type 0
Raises f d = (s : ℕ) → d.frame.lives.generation s ≤ f.lives.generation s + 1

none_raised : (f : Frame) → Raises f (nothing f)
none_raised f s = omega arith

module _ (f : Frame) where
  plainly_raises : (fits : Bool) (ns : List ℤ) (done : FrameDone) → Raises f done → Raises f (plainly f fits ns done)
  plainly_raises true [] done raises = raises
  plainly_raises false [] done raises = none_raised f
  plainly_raises fits (n ∷ ns) done raises = none_raised f

  number_raises : (fits : Bool) (ns : List ℤ) (done : ℤ → FrameDone) → ((n : ℤ) → Raises f (done n)) → Raises f (with_number f fits ns done)
  number_raises fits [] done raises = none_raised f
  number_raises true (n ∷ []) done raises = raises n
  number_raises false (n ∷ []) done raises = none_raised f
  number_raises fits (n ∷ (k ∷ ns)) done raises = none_raised f

  natural_raises : (n : ℤ) (done : ℕ → FrameDone) → ((k : ℕ) → Raises f (done k)) → Raises f (of_natural f n done)
  natural_raises (pos k) done raises = raises k
  natural_raises (negsuc k) done raises = none_raised f

next_or_same : (b : Bool) (n : ℕ) → cond b (n + 1) n ≤ n + 1
next_or_same true n = omega arith
next_or_same false n = omega arith

-- whichever of two is done, if neither raises by more than one
either_lived : (l : Lives) (s : ℕ) (b : Bool) (x y : Lived) → x.lives.generation s ≤ l.generation s + 1 → y.lives.generation s ≤ l.generation s + 1 → (cond b x y).lives.generation s ≤ l.generation s + 1
either_lived l s true x y first second = first
either_lived l s false x y first second = second

either_done : (f : Frame) (b : Bool) (x y : FrameDone) → Raises f x → Raises f y → Raises f (cond b x y)
either_done f true x y first second = first
either_done f false x y first second = second

create_raises : (t : Tables) (me : ℕ) (l : Lives) (m : Msg) (o : ℕ) (x : Endpoint) (s : ℕ) → (create t me l m o x).lives.generation s ≤ l.generation s + 1
unfolding create made part_make lives_made
create_raises t me l m o x s = either_lived l s (not (counts_as_live t me l (whose x))) _ _ (omega arith) (either_lived l s (l.lives o) _ _ (omega arith) (next_or_same (comes_up t me l o s) (l.generation s)))

part_make_raises : (t : Tables) (me : ℕ) (l : Lives) (o s : ℕ) → (part_make t me l o).lives.generation s ≤ l.generation s + 1
unfolding part_make lives_made
part_make_raises t me l o s = next_or_same (comes_up t me l o s) (l.generation s)

end_raises : (t : Tables) (me : ℕ) (f : Frame) (o : ℕ) (last : Option Msg) → Raises f (end_set_ended t me f o last)
unfolding end_set_ended frame_ended lives_ended
end_raises t me f o last s = omega arith

destroy_raises : (t : Tables) (me : ℕ) (f : Frame) (m : Msg) (o : ℕ) (x : Endpoint) → Raises f (destroy t me f m o x)
unfolding destroy
destroy_raises t me f m o x =
    either_done f (not (counts_as_live t me f.lives (whose x)) || not (f.lives.lives o)) _ _ (λ s. omega arith) (end_raises t me f o _)

part_end_raises : (t : Tables) (me : ℕ) (f : Frame) (o : ℕ) → Raises f (part_end t me f o)
unfolding part_end
part_end_raises t me f o = end_raises t me f o None

duty_raises : (t : Tables) (me : ℕ) (f : Frame) (m : Msg) (kind : SysKind) (x y : Endpoint) → Raises f (frame_duty_of t me f m kind x y)
duty_raises t me f m kinds.Create x o = plainly_raises f _ m.payload _ (create_raises t me f.lives m o.slot.0 x)
duty_raises t me f m kinds.CreateDone o x = plainly_raises f _ m.payload _ (none_raised f)
duty_raises t me f m kinds.CreateRefused o x = number_raises f _ m.payload _ (λ n. none_raised f)
duty_raises t me f m kinds.Destroy x o = plainly_raises f _ m.payload _ (destroy_raises t me f m o.slot.0 x)
duty_raises t me f m kinds.DestroyDone o x = number_raises f _ m.payload _ (λ n. natural_raises f n _ (λ k. none_raised f))
duty_raises t me f m kinds.Import i h = plainly_raises f _ m.payload _ (none_raised f)
duty_raises t me f m kinds.ImportDone h i = plainly_raises f _ m.payload _ (none_raised f)
duty_raises t me f m kinds.ImportRefused h i = number_raises f _ m.payload _ (λ n. none_raised f)
duty_raises t me f m kinds.ImportEnded h i = plainly_raises f _ m.payload _ (none_raised f)
duty_raises t me f m kinds.Deport i h = plainly_raises f _ m.payload _ (none_raised f)
duty_raises t me f m kinds.DeportDone h i = plainly_raises f _ m.payload _ (none_raised f)
duty_raises t me f m kinds.Announce x y = number_raises f _ m.payload _ (λ n. natural_raises f n _ (λ k. none_raised f))
duty_raises t me f m kinds.Register x y = none_raised f
duty_raises t me f m kinds.Withdraw x y = none_raised f
duty_raises t me f m kinds.Bound x y = none_raised f
duty_raises t me f m kinds.Ended x y = none_raised f
duty_raises t me f m kinds.NameReply x y = none_raised f
duty_raises t me f m kinds.PartMake x y = plainly_raises f _ m.payload _ (part_make_raises t me f.lives x.slot.0)
duty_raises t me f m kinds.PartEnd x y = plainly_raises f _ m.payload _ (part_end_raises t me f x.slot.0)

duty_from_raises : (t : Tables) (me : ℕ) (f : Frame) (m : Msg) (kind : SysKind) (source : Option Endpoint) → Raises f (frame_duty_from t me f m kind source)
duty_from_raises t me f m kind None = none_raised f
duty_from_raises t me f m kind (Some x) = duty_raises t me f m kind x m.target

-- a duty raises no generation by more than one
pub raised_by_one : (t : Tables) (me : ℕ) (f : Frame) (kind : SysKind) (m : Msg) (s : ℕ) → (frame_duty t me f kind m).frame.lives.generation s ≤ f.lives.generation s + 1
unfolding frame_duty
raised_by_one t me f kind m s = duty_from_raises t me f m kind m.source s
