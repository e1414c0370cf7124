-- Forms as the code holds them.
use Rattle.inject_reader.specs.declared.inject_lines.forms.Target.{Target}
use Rattle.inject_reader.specs.declared.inject_lines.forms.Load.{Load}
use Rattle.inject_reader.specs.declared.inject_lines.forms.Wanted.{Wanted}
use Rattle.inject_reader.specs.declared.inject_lines.forms.Form.{Form}
use Rattle.inject_reader.specs.declared.inject_lines.forms.Form.TheVariants as code
use Rattle.inject_reader.specs.inject_lines.Forms.{TargetForm, LoadForm, MessageForm, LineForm, Settle, Advance, Message}

abbrev pub target_view : Target → TargetForm
target_view t = record { path = t.path.now; port = t.port.now; place = t.place.now }

abbrev pub load_view : Load → LoadForm
load_view l = record { numbers = l.numbers.items; prio = l.prio.0 }

abbrev pub wanted_view : Wanted → MessageForm
wanted_view w = record { target = target_view w.target; signal = w.signal.now; load = load_view w.load }

abbrev pub form_view : Form → LineForm
form_view code.Settle = Settle
form_view (code.Advance time) = Advance time
form_view (code.Message w) = Message (wanted_view w)
