use Rattle.std.proofs.Common.{ℕ, ◌+◌, List, length, sym, ap, ◌∙◌}
use Rattle.std.specs.Prelude.{option_copied}
use Rattle.model_run.specs.part_source.Calls.{seen}
use Rattle.timed_runs.specs.Unseen.{journal_at, entry_at}
use Rattle.timed_runs.proofs.Looking.{entry_is_there, party_within}
use Rattle.timed_runs.proofs.unseen.see_one.Goals as goal

pub unreachable-requires : goal.unreachable-requires
unreachable-requires c =
    entry_is_there (journal_at c.args.wiring.now (seen c.args.controllers.now c.args.environment.now)) c.args.counts.now.items
    c.as_slice.result.now c.as_slice-2.result.now (length c.args.wiring.now.controllers + 1) c.in-Some._stamp c.in-Some.party
    c.as_slice.ensures.value c.as_slice-2.ensures.value (sym c.earliest.ensures ∙ c.in-Some.is)
    (sym c.next_entry.ensures ∙ ap option_copied c.in_default-next_entry.is)

pub count_one-requires : goal.count_one-requires
count_one-requires c =
    let journals = journal_at c.args.wiring.now (seen c.args.controllers.now c.args.environment.now) in
    party_within journals c.args.counts.now.items c.in-Some.party c.in-Some-next_entry.entry.now
    (ap (λ (z : List ℕ). entry_at journals z c.in-Some.party) (sym c.as_slice-2.ensures.value)
    ∙ sym c.next_entry.ensures ∙ ap option_copied c.in-Some-next_entry.is)
