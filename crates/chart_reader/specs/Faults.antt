-- The faults of charts by number, and the first of those that are tests.
use Rattle.std.specs.Prelude.{ℕ, Option, Some, None, if◌then◌else◌}
use Rattle.chart_model.specs.Chart.{Chart}
use Rattle.chart_reader.specs.chart_rules.Rules.{nests_within, has_right_names, has_one_initial_at_most, has_initials, has_defaults}
use Rattle.chart_reader.specs.declared.fault.ChartFault.{ChartFault}
use Rattle.chart_reader.specs.declared.fault.ChartFault.TheVariants as faults

abbrev pub number : ChartFault → ℕ
number faults.DepthAbove16 = 1
number faults.BadPoint = 2
number faults.TwoInitials = 3
number faults.NoInitial = 4
number faults.NoDefault = 5
number faults.ChoiceCycle = 6
number faults.BadTrigger = 7
number faults.BadAction = 8

-- the first of the rules 1 to 5 that a chart breaks
unfoldable pub names_fault : Chart → Option ChartFault
names_fault chart =
    if nests_within chart then
    (if has_right_names chart then
    (if has_one_initial_at_most chart then
    (if has_initials chart then
    (if has_defaults chart then None else Some faults.NoDefault)
    else Some faults.NoInitial)
    else Some faults.TwoInitials)
    else Some faults.BadPoint)
    else Some faults.DepthAbove16
