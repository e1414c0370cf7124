-- One line more is posted.
use Rattle.std.proofs.Common.{◌≡◌, ℕ, ℤ, zero, suc, ◌+◌, ◌<◌, ◌≤◌, ◌==◌, ◌&&◌, Bool, true, false, if◌then◌else◌, List, [], ◌∷◌, ◌++◌, length, drop, slice_get, get_or, Some, refl, sym, ap, ◌∙◌, subst, arith, append_assoc, append-nil, length-append, eq-eqb}
use Rattle.std.specs.Option.{option_map_or}
use Rattle.std.proofs.lemmas.Bool.{true≢false}
use Rattle.std.proofs.lemmas.List.{drop_all, length-map}
use Rattle.std.proofs.lemmas.Option.{slice_get_within, slice_get-get_or}
use Rattle.room_kinds.specs.declared.message.Msg.{Msg}
use Rattle.room_kinds.specs.declared.numbers.Endpoint.{Endpoint}
use Rattle.room_kinds.specs.declared.numbers.Priority.{Priority}
use Rattle.journal.specs.declared.entry.Entry.{Entry}
use Rattle.journal.specs.declared.entry.Entry.TheVariants as entry
use Rattle.inject_reader.specs.declared.inject_lines.accepted.Line.{Line}
use Rattle.inject_reader.specs.declared.inject_lines.accepted.What.{What}
use Rattle.inject_reader.specs.declared.inject_lines.accepted.What.TheVariants as whats
use Rattle.mail_core.specs.EndLog.{EndLog, gained, posting}
use Rattle.actor_merge.specs.Mail.{lane, is_lane}
use Rattle.actor_merge.specs.Parties.{stamped, part_of, Line as RunLine, Plant as RunPlant}
use Rattle.actor_world.specs.Body.{Body}
use Rattle.actor_world.specs.Journals.{Item, Message, lines_of}
use Rattle.chart_behaviour.specs.ModelCharts.{Actor}
use Rattle.model_run.specs.run_rounds.LineParts.{CutAt, PostsPart}
use Rattle.model_run.proofs.run_rounds.LinesLaw.{cut_message, line_at, posts_nothing, posts_more}
use Rattle.controller_mail.specs.MailState.{EnvironmentState, environment_of}
use Rattle.controller_mail.specs.Steps.{environment_after}
use Rattle.controller_mail.proofs.Replaying.{environment_leaves}
use Rattle.controller_actors.specs.declared.plant.Plant.{Plant}
use Rattle.controller.specs.Controllers.{EndGoes, run_plant}
use Rattle.controller.specs.Calls.{PostsLine}
use Rattle.controller.proofs.Going.{end_goes_none, end_goes_then}
use Rattle.model_run.specs.part_source.Parts.{is_message, IsPart}
use Rattle.model_run.proofs.run_rounds.LaneLists.{above_append, posts_append}
use Rattle.model_run.specs.part_posts.Items.{injected, item_of, items_of}
use Rattle.model_run.specs.part_posts.Posting.{PostsUpTo}

-- what an end gains by a post
gained_lane : (c r p : ℕ) (lists : ℕ → ℕ → List Msg) (m : Msg) → gained lists m.to.0 m.prio.0 m r p ≡ lists r p ++ ((if is_lane (lane c r p) (lane c m.to.0 m.prio.0) then m ∷ [] else []) ++ [])
unfolding is_lane
gained_lane c r p lists m = rw (eq-eqb c c refl) (go (r == m.to.0) (p == m.prio.0))
  where
    go : (a b : Bool) → (if a && b then lists r p ++ m ∷ [] else lists r p) ≡ lists r p ++ ((if (true && a) && b then m ∷ [] else []) ++ [])
    go true true = refl
    go true false = sym (append-nil (lists r p))
    go false b = sym (append-nil (lists r p))

end_posts : (c : ℕ) (log : EndLog) (m : Msg) → EndGoes c log (posting log m) (entry.Post m.stamp m ∷ [])
unfolding posting
end_posts c log m = record {
  party = refl;
  parties = refl;
  posted = λ r p. gained_lane c r p log.posted m;
  took = λ s p. sym (append-nil (log.taken s p));
}

module _ (plant : Plant) (lines : List Line) where
  abbrev items : List Item
  items = items_of plant.wiring lines

  -- nothing is posted yet
  pub none_posted : (env : EnvironmentState) (log : EndLog) → PostsUpTo plant lines 0 env env log log
  none_posted env log = record {
    entries = [];
    journal = sym (append-nil env.journal);
    count = refl;
    end = end_goes_none (length plant.wiring.controllers) log;
    within = tt;
    above = tt;
    posts = λ whole rest q cut. (posts_nothing (run_plant plant (lines_of whole)) (environment_of env) q, cut);
  }

  module _ (at number : ℕ) (old mid : EnvironmentState) (log log' : EndLog) (m : Msg) (s : PostsUpTo plant lines at old mid log log')
      (here : drop at items ≡ Message number m ∷ drop (at + 1) items) (to : m.to.0 < length plant.wiring.controllers) (prio : m.prio.0 < 6) (least : 1 ≤ m.prio.0) where
    abbrev sent : Msg
    sent = stamped (length plant.wiring.controllers) (mid.clock + 1) m

    abbrev last : Entry
    last = entry.Post sent.stamp sent

    abbrev new : EnvironmentState
    new = environment_after mid sent

    one_longer : length new.journal ≡ length mid.journal + 1
    one_longer = length-append mid.journal (last ∷ []) ∙ omega arith

    module _ (whole rest : List Item) (q : ℕ) (cut : CutAt whole (items ++ rest) (length old.journal) q) where
      abbrev plan : RunPlant (Body Actor)
      plan = run_plant plant (lines_of whole)

      part_of_line : slice_get (lines_of whole) (length mid.journal) ≡ Some (record { part = q; message = m }) → part_of plan (length mid.journal) ≡ q
      part_of_line e = ap (λ o. option_map_or (λ (x : RunLine). x.part) o 1) e

      posts_on : PostsPart plan (environment_of old) (environment_of new) (s.entries ++ last ∷ []) q × CutAt whole (drop (at + 1) items ++ rest) (length new.journal) q
      posts_on =
          let after : List Item = drop (at + 1) items ++ rest in
          let both = s.posts whole rest q cut in
          let now : CutAt whole (Message number m ∷ after) (length mid.journal) q = subst (λ (z : List Item). CutAt whole (z ++ rest) (length mid.journal) q) here both.1 in
          let line = line_at whole after (length mid.journal) q number m now in
          let replays = environment_leaves plan (environment_of old) s.entries mid (record { part = q; message = m }) both.0.replays line in (
            posts_more plan (environment_of old) (environment_of mid) (environment_of new) s.entries last q both.0 replays one_longer (part_of_line line),
            subst (λ (z : ℕ). CutAt whole after z q) (sym one_longer) (cut_message whole after (length mid.journal) q number m now),
          )

    -- one line more
    pub one_posted : (after : EnvironmentState) (log'' : EndLog) → PostsLine (length plant.wiring.controllers) mid after log' log'' m → PostsUpTo plant lines (at + 1) old after log log''
    one_posted after log'' p =
        subst (λ (z : EnvironmentState). PostsUpTo plant lines (at + 1) old z log log'') (sym p.state)
        (record {
          entries = s.entries ++ last ∷ [];
          journal = ap (λ (z : List Entry). z ++ last ∷ []) s.journal ∙ append_assoc old.journal s.entries (last ∷ []);
          count = length-append s.entries (last ∷ []) ∙ ap (λ (z : ℕ). z + 1) s.count;
          end = end_goes_then s.end (subst (λ (z : EndLog). EndGoes (length plant.wiring.controllers) log' z (last ∷ [])) (sym p.end) (end_posts (length plant.wiring.controllers) log' sent));
          within = posts_append (length plant.wiring.controllers) s.entries (last ∷ []) s.within ((to, prio), tt);
          above = above_append s.entries (last ∷ []) s.above (least, tt);
          posts = posts_on;
        })

-- the item of a line
pub item_there : (plant : Plant) (lines : List Line) (at : ℕ) (x : Line) → slice_get lines at ≡ Some x
    → drop at (items_of plant.wiring lines) ≡ item_of plant.wiring x.number x.what ∷ drop (at + 1) (items_of plant.wiring lines)
item_there plant [] at x h = absurd (omega (arith, slice_get_within [] at x h))
item_there plant (y ∷ lines) zero x h = let same : y ≡ x = cc in rw same refl
item_there plant (y ∷ lines) (suc at) x h =
    let next : suc at + 1 ≡ suc (at + 1) = omega arith in
    item_there plant lines at x h
    ∙ ap (λ (z : ℕ). item_of plant.wiring x.number x.what ∷ drop z (items_of plant.wiring (y ∷ lines))) (sym next)

-- no line is left
pub all_gone : (plant : Plant) (lines : List Line) → drop (length lines) (items_of plant.wiring lines) ≡ []
all_gone plant lines = drop_all (length lines) (items_of plant.wiring lines) (rw (length-map lines (λ (l : Line). item_of plant.wiring l.number l.what)) (omega arith))

-- the line that was read
pub line_there : (lines : List Line) (at : ℕ) (x : Line) → x ≡ get_or lines at x → at < length lines → slice_get lines at ≡ Some x
line_there lines at x e h = slice_get-get_or lines at x h ∙ ap Some (sym e)

-- the line that was read asks for a message
pub message_read : (plant : Plant) (lines : List Line) (at : ℕ) (x : Line) (target : Endpoint) (signal : ℕ) (payload : List ℤ) (prio : Priority) (m : Msg)
    → x ≡ get_or lines at x → at < length lines → (get_or lines at x).what ≡ whats.Message target signal payload prio → m ≡ injected plant.wiring target signal payload prio
    → drop at (items_of plant.wiring lines) ≡ Message x.number m ∷ drop (at + 1) (items_of plant.wiring lines)
message_read plant lines at x target signal payload prio m e h is same =
    let rest : List Item = drop (at + 1) (items_of plant.wiring lines) in
    item_there plant lines at x (line_there lines at x e h)
    ∙ ap (λ (w : What). item_of plant.wiring x.number w ∷ rest) (ap (λ (l : Line). l.what) e ∙ is)
    ∙ ap (λ (z : Msg). Message x.number z ∷ rest) (sym same)
