-- What contracts see of the mail of one thread.
use Rattle.std.specs.Prelude.{ℕ, List, map, slice_index}
use Rattle.room_kinds.specs.declared.message.Msg.{Msg}
use Rattle.mail_core.specs.declared.ends.MailLocal.{MailLocal}
use Rattle.mail_core.specs.declared.ends.LocalOffice.{LocalOffice}
use Rattle.mail_core.specs.EndLog.{EndLog}
use Rattle.mail_core.specs.Lanes.{list_of, lane_of, LanesMatch}

-- what an end did
abbrev pub log_of : MailLocal → EndLog
log_of e = record {
  party = e.party;
  parties = e.parties;
  posted = list_of e.posted.items;
  taken = list_of e.taken.items;
  looks = slice_index e.looks.items;
}

-- the messages that lie in an office
abbrev pub lanes_of : LocalOffice → List (List Msg)
lanes_of o = o.lanes.items

-- those of one lane, oldest first
abbrev pub lane_at : LocalOffice → ℕ → ℕ → ℕ → List Msg
lane_at o s r p = lane_of o.lanes.items o.parties s r p

-- one number of parties, and in each lane what was taken and then what lies in the office is what was posted
abbrev pub AreTied : LocalOffice → List MailLocal → Type 0
AreTied office ends = LanesMatch office.parties office.lanes.items (map log_of ends)
