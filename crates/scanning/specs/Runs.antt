-- What a scan answers, and what the private functions do: a number at a place of a source, and a run over some numbers of a document.
use Rattle.std.specs.Prelude.{cond, List, ℕ, zero, suc, ◌+◌, ltb, length, drop, Result, Ok, Err}
use Rattle.checks.specs.declared.refusals.Document.{Document}
use Rattle.checks.specs.declared.refusals.Refusal.{Refusal}
use Rattle.groups.specs.declared.Got.{Got}
use Rattle.documents.specs.declared.State.{State}
use Rattle.scanning.specs.declared.Reached.{Reached}
use Rattle.checks.specs.Refusals.{refusals_of, giving}
use Rattle.groups.specs.Groups.{placed}
use Rattle.documents.specs.Walk.{Outcome, Source}
use Rattle.documents.specs.State.{start}
use Rattle.documents.specs.Layout.{fault_in, after_in}

-- The answer: the refusal, or how many numbers there are.
abbrev pub scanned : Outcome → Result ℕ Refusal
scanned (Err w) = Err w
scanned (Ok xs) = Ok (length xs)

abbrev pub reached : State → ℕ → Reached
reached s p = record { next = p; state = s }

abbrev pub begun : Reached
begun = reached start 0

-- Go on from where nothing is refused.
abbrev pub going : {A B : Type 0} → Result A Refusal → (A → Result B Refusal) → Result B Refusal
going (Ok a) go = go a
going (Err w) go = Err w

-- What comes of what was got at a state's place.
abbrev pub stepped : Document → State → Got → Result Reached Refusal
stepped p s (Got.Number x next) = giving (fault_in p s x) (reached (after_in p s x) next)
stepped p s Got.Ends = Err (refusals_of p).ends
stepped p s Got.TooLong = Err (refusals_of p).long
stepped p s Got.Padded = Err (refusals_of p).padded

-- One number more of the source s; and k of them.
abbrev pub one_more : Document → Source → List ℕ → Reached → Result Reached Refusal
one_more p read s r = stepped p r.state (placed (length s) (read (drop r.next s)))

unfoldable pub gone_on : Document → Source → List ℕ → ℕ → Reached → Result Reached Refusal
gone_on p read s zero r = Ok r
gone_on p read s (suc k) r = going (one_more p read s r) (gone_on p read s k)

-- The answer at the end of a whole document, of which `count` numbers follow the first three, in a source of n places.
abbrev pub closing : Document → ℕ → ℕ → Reached → Result ℕ Refusal
closing p n count r = cond (ltb r.next n) (Err (refusals_of p).left) (Ok (3 + count))
