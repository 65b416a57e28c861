-- Packing and unpacking undo one another, for any form and any number of groups.
use Rattle.std.specs.Prelude.{Ok}
use mathlib.Core.Path.{◌≡◌, refl, sym, ap, ◌∙◌, subst}
use mathlib.Core.List.{List, [], ◌∷◌, ◌++◌, append_assoc, append-nil}
use Prim.Native.Nat.{ℕ, ◌+◌, ◌^◌, ◌<◌}
use lib.ListN.{length}
use lib.Seq.{get_or-append-add}
use Rattle.groups.specs.Groups.{read_groups, encode, pack, Bytes}
use Rattle.documents.specs.Walk.{Form, read_head, form}
use Rattle.documents.specs.Walk.{Gives}
use Rattle.grid.proofs.Cases.{never}
use Rattle.groups.proofs.GroupLaws.{encode_reads, read_encodes}
use Rattle.documents.proofs.WalkLaws.{Good, form_accepts, accepts_form}

-- Plain numbers give themselves, and only those.
head_gives : (xs b : List ℕ) → Gives read_head (xs ++ b) xs b
head_gives [] b = refl
head_gives (x ∷ xs) b = (xs ++ b, refl, head_gives xs b)

pub head_whole : (xs : List ℕ) → Gives read_head xs xs []
head_whole xs = subst (λ (a : List ℕ). Gives read_head a xs []) (append-nil xs) (head_gives xs [])

head_given : (a xs b : List ℕ) → Gives read_head a xs b → a ≡ xs ++ b
head_given a [] b g = g
head_given [] (x ∷ xs) b g = let e = g.1 in never cc
head_given (y ∷ a) (x ∷ xs) b g = let e = g.1 in let r = head_given g.0 xs b g.2 in cc

-- Bytes give the numbers whose shortest forms they are, and only those.
bytes_after : (p rest : List ℕ) → Bytes (p ++ rest) → Bytes rest
bytes_after p rest w i = rw (get_or-append-add p rest i 0) at (w (length p + i))

pub bytes-given : (g : ℕ) (a xs b : List ℕ) → Bytes a → Gives (read_groups g) a xs b → a ≡ pack xs ++ b
bytes-given g a [] b w h = h
bytes-given g a (x ∷ xs) b w h =
    let e = (read_encodes g a x h.0 w h.1).0 in
    let r = bytes-given g h.0 xs b (bytes_after (encode x) h.0 (rw e at w)) h.2 in
    e ∙ ap (λ (c : List ℕ). encode x ++ c) r ∙ sym (append_assoc (encode x) (pack xs) b)

module _ (F : Form) (g : ℕ) (some : 0 < g) (small : (s : F.State) (x : ℕ) → F.fault s x ≡ Ok tt → x < 128 ^ g) where
  pub bytes_give : (s : F.State) (xs b : List ℕ) → Good F s xs → Gives (read_groups g) (pack xs ++ b) xs b
  bytes_give s [] b h = refl
  bytes_give s (x ∷ xs) b h = (
    pack xs ++ b,
    rw (append_assoc (encode x) (pack xs) b) (encode_reads g x (pack xs ++ b) some (small s x h.0)),
    bytes_give (F.after s x) xs b h.1,
  )

  -- Bytes that are accepted are the packed form of an accepted list.
  pub unpacked_packs : (bytes xs : List ℕ) → Bytes bytes → form F (read_groups g) bytes ≡ Ok xs →
      (bytes ≡ pack xs) × (form F read_head xs ≡ Ok xs)
  unpacked_packs bytes xs w e =
      let r = form_accepts F (read_groups g) bytes xs e in
      (bytes-given g bytes xs [] w r.1 ∙ append-nil (pack xs), accepts_form F read_head xs xs r.0 (head_whole xs))

  -- A list that is accepted is the list of its packed form.
  pub packed_unpacks : (list xs : List ℕ) → form F read_head list ≡ Ok xs → (list ≡ xs) × (form F (read_groups g) (pack xs) ≡ Ok xs)
  packed_unpacks list xs e =
      let r = form_accepts F read_head list xs e in (
        head_given list xs [] r.1 ∙ append-nil xs,
        accepts_form F (read_groups g) (pack xs) xs r.0
            (subst (λ (a : List ℕ). Gives (read_groups g) a xs []) (append-nil (pack xs)) (bytes_give F.start xs [] r.0.good)),
      )
