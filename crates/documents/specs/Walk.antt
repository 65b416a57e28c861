-- A walk over the numbers of a form: each is read from a source, checked by the state, and changes the state.
-- A source is a list, and a way to read its next number: bytes in groups, or plain numbers.
use Rattle.std.specs.Prelude.{◌≡◌, List, [], ◌∷◌, ◌++◌, ℕ, zero, suc, Result, Ok, Err}
use Rattle.checks.specs.declared.refusals.Refusal.{Refusal}
use Rattle.checks.specs.declared.refusals.Refusals.{Refusals}
use Rattle.checks.specs.Refusals.{Checked}
use Rattle.groups.specs.Groups.{Read, Number, Ends, TooLong, Padded}

-- What is laid down for a form: the refusal of a number in a state, if there is one, the state after it,
-- how many numbers come first, how many follow once the first are known, and the refusals that every form has.
pub record Form : Type 1 where
  pub State : Type 0
  pub start : State
  pub fault : State → ℕ → Checked
  pub after : State → ℕ → State
  pub head : ℕ
  pub body : State → ℕ
  pub refusals : Refusals

-- The numbers and what is left of the source, or the refusal.
pub data Taken : Type 0 where
  Refused : Refusal → Taken
  Took : List ℕ → List ℕ → Taken

-- What a whole form comes to.
abbrev pub Outcome : Type 0
Outcome = Result (List ℕ) Refusal

abbrev pub Source : Type 0
Source = List ℕ → Read

-- A list of numbers as a source.
abbrev pub read_head : Source
read_head [] = Ends
read_head (x ∷ xs) = Number x xs

-- A source gives the numbers xs, and b is left.
abbrev pub Gives : Source → List ℕ → List ℕ → List ℕ → Type 0
Gives read a [] b = a ≡ b
Gives read a (x ∷ xs) b = (c : List ℕ) × (read a ≡ Number x c) × Gives read c xs b

-- A refusal if no number could be read. Else go on with it and with what is left.
abbrev pub met : Refusals → Read → (ℕ → List ℕ → Taken) → Taken
met r (Number x rest) go = go x rest
met r Ends go = Refused r.ends
met r TooLong go = Refused r.long
met r Padded go = Refused r.padded

-- The refusal of a number, if there is one.
abbrev pub unless : Checked → Taken → Taken
unless (Ok _) t = t
unless (Err w) t = Refused w

-- The numbers xs were taken before.
abbrev pub with : List ℕ → Taken → Taken
with xs (Refused w) = Refused w
with xs (Took ys rest) = Took (xs ++ ys) rest

-- One walk after another.
abbrev pub next : Taken → (List ℕ → List ℕ → Taken) → Taken
next (Refused w) go = Refused w
next (Took xs rest) go = with xs (go xs rest)

-- Nothing may be left, whatever it is.
abbrev pub closed : Refusals → Taken → Outcome
closed r (Refused w) = Err w
closed r (Took xs []) = Ok xs
closed r (Took xs (b ∷ rest)) = Err r.left

module _ (F : Form) where
  -- The state after several numbers.
  abbrev pub final : F.State → List ℕ → F.State
  final s [] = s
  final s (x ∷ xs) = final (F.after s x) xs

  -- k numbers from a state.
  unfoldable pub walk : Source → ℕ → F.State → List ℕ → Taken
  walk read zero s a = Took [] a
  walk read (suc k) s a = met F.refusals (read a) (λ x b. unless (F.fault s x) (with (x ∷ []) (walk read k (F.after s x) b)))

  -- The whole form: its first numbers, and then those that these ask for.
  abbrev pub rest : Source → List ℕ → List ℕ → Taken
  rest read xs b = walk read (F.body (final F.start xs)) (final F.start xs) b

  unfoldable pub form : Source → List ℕ → Outcome
  form read a = closed F.refusals (next (walk read F.head F.start a) (rest read))
