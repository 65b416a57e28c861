-- The line of an answer is short.
-- Assumes nothing.
use mathlib.Core.Bool.{Bool, true, false, cond}
use mathlib.Core.List.{List, [], ◌∷◌, ◌++◌}
use Prim.Native.Nat.{ℕ, ◌≤◌}
use native.Mathlib.Omega.{arith}
use lib.Dec.{eqb}
use lib.ListN.{length, length-append}
use Rattle.verdicts.specs.declared.Values.{Values}
use Rattle.ascii.specs.Lines.{line, refused_text}
use Rattle.ascii.proofs.LineLaws.{line_short}
use Rattle.texts.specs.MarkLine.{line_bytes, deal_word, head_of, verdict_line, mark_line}
use Rattle.texts.proofs.LineWriting.{head_short, deal_short}

verdict_fits : (v : Values) → length (verdict_line v) ≤ line_bytes
verdict_fits v =
    let last = line (v.count ∷ []) in
    omega (
      arith,
      length-append (head_of v) (deal_word v.deal ++ last),
      length-append (deal_word v.deal) last,
      head_short v,
      deal_short v.deal,
      line_short (v.count ∷ []),
    )

pick_fits : (test : Bool) (a b : List ℕ) → length a ≤ line_bytes → length b ≤ line_bytes → length (cond test a b) ≤ line_bytes
pick_fits true a b p q = p
pick_fits false a b p q = q

-- every line fits
pub line_fits : (v : Values) → length (mark_line v) ≤ line_bytes
line_fits v =
    pick_fits (eqb v.refusal 0) (verdict_line v) (refused_text v.refusal) (verdict_fits v) (omega (arith, line_short (v.refusal ∷ [])))
