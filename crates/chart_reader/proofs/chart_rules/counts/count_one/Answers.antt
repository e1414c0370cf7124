use Rattle.std.proofs.Common.{ℕ, List, Bor}
use Rattle.name_tables.specs.name_index.Places.{place_in}
use Rattle.chart_reader.proofs.chart_rules.Tables.{counted_more}
use Rattle.chart_reader.proofs.chart_rules.counts.count_one.Goals as goal

abbrev at : List ℕ → Bor (List ℕ)
at key = record { ref_ptr = (0, 0); now = key }

pub returns : goal.returns
returns c = counted_more (place_in c.args.counts.now) (place_in c.insert.new.self) c.args.key.now c.count_of-count.result (λ q. c.in_ok-insert.ensures.updates.0 (at q)) c.count_of-count.ensures
