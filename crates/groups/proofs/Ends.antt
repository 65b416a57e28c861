-- What is left of a list that is read from the front: an end of it, which its length places.
use mathlib.Core.Path.{◌≡◌, refl, sym, ap, ◌∙◌}
use mathlib.Core.List.{List, ◌∷◌}
use Prim.Native.Nat.{ℕ, suc, ◌+◌, ◌-◌, ◌≤◌}
use native.Mathlib.Omega.{arith}
use lib.ListN.{length, drop, length-drop}
use lib.Seq.{drop-drop}

pub record EndOf (b a : List ℕ) : Type 0 where
  pub at : ℕ
  pub within : at ≤ length a
  pub same : b ≡ drop at a

pub end_self : (a : List ℕ) → EndOf a a
end_self a = record { at = 0; within = omega arith; same = refl }

pub end_next : (b a : List ℕ) (x : ℕ) → EndOf b a → EndOf b (x ∷ a)
end_next b a x e = record { at = suc e.at; within = omega (arith, e.within); same = e.same }

pub end_trans : (c b a : List ℕ) → EndOf c b → EndOf b a → EndOf c a
end_trans c b a d e = record {
  at = e.at + d.at;
  within = omega (arith, d.within, e.within, ap length e.same, length-drop e.at a);
  same = d.same ∙ ap (drop d.at) e.same ∙ drop-drop d.at e.at a;
}

pub end_place : (b a : List ℕ) → EndOf b a → drop (length a - length b) a ≡ b
end_place b a e =
    let p : length a - length b ≡ e.at = omega (arith, e.within, ap length e.same, length-drop e.at a) in rw p (sym e.same)

pub end_length : (b a : List ℕ) → EndOf b a → length b ≤ length a
end_length b a e = omega (arith, ap length e.same, length-drop e.at a)
