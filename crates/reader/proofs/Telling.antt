-- A reply that is due has the values that are due on paper.
use Rattle.std.specs.Prelude.{Result, Ok, Err}
use Rattle.checks.specs.declared.refusals.Refusal.{Refusal}
use mathlib.Core.Path.{◌≡◌, refl, ap, ◌∙◌}
use mathlib.Core.Bool.{Bool, true, false, cond}
use Prim.Native.Nat.{ℕ}
use lib.Dec.{leb}
use lib.ListN.{length}
use Rattle.checks.specs.Refusals.{number_of}
use Rattle.documents.specs.Walk.{Outcome}
use Rattle.reader.specs.Values.{refused_with, done_with, reply_values, Refuses, Counts}
use Rattle.reader.specs.Answer.{reply, reply_on_paper, Tells}

pub refuses : (r : Result ℕ Refusal) (why : Refusal) → r ≡ Err why → Refuses r why
refuses r why e = record { reply = e; values = ap reply_values e }

pub counts : (r : Result ℕ Refusal) (count : ℕ) → r ≡ Ok count → Counts r count
counts r count e = record { reply = e; values = ap reply_values e }

due_on_paper : (room : ℕ) (o : Outcome) → reply_values (reply room o) ≡ reply_on_paper room o
due_on_paper room (Err w) = refl
due_on_paper room (Ok xs) = go (leb (length xs) room)
  where
    go : (b : Bool) → reply_values (cond b (Ok (length xs)) (Err Refusal.NoRoom))
        ≡ cond b (done_with (length xs)) (refused_with (number_of Refusal.NoRoom))
    go true = refl
    go false = refl

pub tells : (r : Result ℕ Refusal) (room : ℕ) (o : Outcome) → r ≡ reply room o → Tells r room o
tells r room o e = record { reply = e; values = ap reply_values e ∙ due_on_paper room o }
