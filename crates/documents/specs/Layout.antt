-- The two documents as forms of one walk.
use Rattle.std.specs.Prelude.{ℕ}
use Rattle.checks.specs.declared.refusals.Document.{Document}
use Rattle.documents.specs.declared.State.{State}
use Rattle.checks.specs.Refusals.{Checked, refusals_of}
use Rattle.checks.specs.SettlementFaults.{settlement_fault}
use Rattle.documents.specs.Walk.{Form}
use Rattle.documents.specs.State.{start}
use Rattle.documents.specs.Ticket.{ticket_fault, ticket_after, ticket_body}
use Rattle.documents.specs.Settlement.{settlement_after, settlement_body}

abbrev pub fault_in : Document → State → ℕ → Checked
fault_in Document.Ticket s x = ticket_fault s x
fault_in (Document.Settlement n m) s x = settlement_fault n m s.place x

abbrev pub after_in : Document → State → ℕ → State
after_in Document.Ticket s x = ticket_after s x
after_in (Document.Settlement n m) s x = settlement_after s x

abbrev pub body_in : Document → State → ℕ
body_in Document.Ticket s = ticket_body s
body_in (Document.Settlement n m) s = settlement_body s

-- Kind, n and m come first in both.
abbrev pub form_of : Document → Form
form_of p = record {
  State = State;
  start = start;
  fault = λ s x. fault_in p s x;
  after = λ s x. after_in p s x;
  head = 3;
  body = λ s. body_in p s;
  refusals = refusals_of p;
}

abbrev pub ticket : Form
ticket = form_of Document.Ticket

abbrev pub settlement : ℕ → ℕ → Form
settlement n m = form_of (Document.Settlement n m)
