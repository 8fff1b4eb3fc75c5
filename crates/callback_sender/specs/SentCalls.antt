-- Calls that were handed over.
use Rattle.std.specs.Prelude.{List, map}
use Rattle.callback_sender.specs.declared.call_sink.SentCall.{SentCall}
use Rattle.callback_sender.specs.Calls.{Call}

abbrev pub view_of_sent : List SentCall → List Call
view_of_sent calls = map (λ (s : SentCall). record { number = s.number; to = s.to; bytes = s.bytes }) calls
