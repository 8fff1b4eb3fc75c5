-- What is sent, as a contract sees it.
use Rattle.local_ops.specs.Answers.{view_of_local_answer}
use Rattle.local_ops.specs.Texts.{reply_text}
use Rattle.book.specs.Given.{view_of_record_reply, record_of}
use Rattle.daemon_core.specs.declared.sent.Addressee as declared
use Rattle.daemon_core.specs.declared.sent.Addressee.TheVariants as addressee
use Rattle.daemon_core.specs.declared.sent.Content.{Content}
use Rattle.daemon_core.specs.declared.sent.Content.TheVariants as content
use Rattle.daemon_core.specs.Sending.{Addressee, Sending, ToClient, ToHost, ToLocal}

abbrev pub view_of_addressee : declared.Addressee → Addressee
view_of_addressee (addressee.Client number) = ToClient number
view_of_addressee (addressee.Host name) = ToHost name.now
view_of_addressee (addressee.Local l) = ToLocal l

abbrev pub view_of_content : Content → Sending
view_of_content (content.Reply to reply) = record { to = ToClient to; bytes = record_of (view_of_record_reply reply) }
view_of_content (content.Line to answer) = record { to = ToLocal to; bytes = reply_text (view_of_local_answer answer) }
view_of_content (content.Call send_buffer) = send_buffer.value
