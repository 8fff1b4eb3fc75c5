-- What events come to, as the definitions have it.
use Rattle.std.specs.Prelude.{[]}
use Rattle.definitions.specs.Bytes.{Bytes}
use Rattle.definitions.specs.Hosts.{StoreAnswer}
use Rattle.definitions.specs.Replies.{Refuses, SystemErr, Reading, Ignored, Turned, Asks}
use Rattle.definitions.specs.Step.{Completion, Applied, Starved, Given, Nothing, Replies, Says, Sends, IsStarved, IsRefused}
use Rattle.call_codec.specs.CallValues.{view_of_refusal}
use Rattle.call_codec.specs.OutcomeValues.{view_of_outcome}
use Rattle.call_codec.specs.Replies.{reply_bytes}
use Rattle.call_codec.specs.Records.{call_record}
use Rattle.local_ops.specs.Answers.{view_of_local_answer}
use Rattle.book.specs.declared.reply.Reply.{Reply}
use Rattle.book.specs.declared.reply.Reply.TheVariants as reply
use Rattle.book.specs.declared.reply.RecordReply.{RecordReply}
use Rattle.book.specs.declared.reply.RecordReply.TheVariants as record_reply
use Rattle.book.specs.declared.reply.Unanswered.{Unanswered}
use Rattle.book.specs.declared.reply.Unanswered.TheVariants as unanswered
use Rattle.book.specs.declared.step_result.Completion.{Completion as Became}
use Rattle.book.specs.declared.step_result.Completion.TheVariants as completion
use Rattle.book.specs.declared.step_result.EventStatus.{EventStatus}
use Rattle.call_plans.specs.Planned.{view_of_stored}

-- what became of an event, what the store answered, and what the event gives
pub record StepResult : Type 0 where
  pub completion : Completion
  pub store : StoreAnswer
  pub given : Given

abbrev pub comes_to : Completion → StoreAnswer → Given → StepResult
comes_to completion store given = record { completion = completion; store = store; given = given }

abbrev pub view_of_completion : Became → Completion
view_of_completion completion.Applied = Applied
view_of_completion completion.Starved = Starved

-- what an event comes to with this status, which gives this
abbrev pub result_under : EventStatus → Given → StepResult
result_under status given = comes_to (view_of_completion status.completion) (view_of_stored status.store) given

abbrev pub view_of_record_reply : RecordReply → Given
view_of_record_reply (record_reply.Answers xid outcome) = Replies xid (view_of_outcome outcome.value)
view_of_record_reply (record_reply.Refuses xid why) = Replies xid (Refuses (view_of_refusal why))
view_of_record_reply (record_reply.SystemErr xid) = Replies xid SystemErr

abbrev pub view_of_unanswered : Unanswered → Given
view_of_unanswered unanswered.Nothing = Nothing
view_of_unanswered unanswered.Starved = IsStarved
view_of_unanswered unanswered.StoreRefused = IsRefused

abbrev pub view_of_reply : Reply → Given
view_of_reply (reply.Record given) = view_of_record_reply given
view_of_reply (reply.Line answer) = Says (view_of_local_answer answer)
view_of_reply (reply.Nobody why) = view_of_unanswered why

-- a restart that was not made: the store refused it, or memory was wanting
abbrev pub unbegun : Completion → Given
unbegun Applied = IsRefused
unbegun Starved = IsStarved

-- the record of the reply that a client gets, or of the call that is sent (RFC 5531, section 9), no bytes where there is none; a line is no record
abbrev pub record_of : Given → Bytes
record_of (Replies xid outcome) = reply_bytes xid outcome
record_of Nothing = []
record_of (Says line) = []
record_of (Sends number callback) = call_record number callback.message
record_of IsStarved = []
record_of IsRefused = []

-- what a record gets that was taken and for which there was no memory
abbrev pub starved_reading : Reading → Given
starved_reading Ignored = IsStarved
starved_reading (Turned xid why) = Replies xid SystemErr
starved_reading (Asks xid call) = Replies xid SystemErr
