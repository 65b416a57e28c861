-- `sheets::settled::header` meets its contract: the word, and a line of two numbers.
use Prim.Native.Nat.{ℕ, zero, suc, ◌≤◌}
use mathlib.Core.List.{[], ◌∷◌}
use native.Mathlib.Omega.{arith}
use lib.ListN.{get_or}
use Rattle.ascii.proofs.PageWriting.{wrote_then}
use Rattle.sheets.proofs.settled.header.Goals as goal

both_small : (n m : ℕ) → n ≤ 16 → m ≤ 16 → (k : ℕ) → get_or (n ∷ m ∷ []) k 0 ≤ 500
both_small n m hn hm zero = omega arith
both_small n m hn hm (suc zero) = omega arith
both_small n m hn hm (suc (suc k)) = omega arith

pub amounts-requires : goal.amounts-requires
amounts-requires c = (both_small c.args.growers c.args.pilots c.requires.0 c.requires.1, omega (arith, c.word-next.ensures.ends))

pub returns : goal.returns
returns c = wrote_then c.word-next.ensures c.amounts.ensures
