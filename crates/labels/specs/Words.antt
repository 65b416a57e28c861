-- The words of a spot: of whom its line is, and which of his numbers it has.
-- Assumes nothing.
use Rattle.std.specs.Prelude.{ℕ, Bool, cond, List, [], ◌∷◌, ◌++◌, eqb}
use Rattle.ascii.specs.Numeral.{numeral}
use Rattle.ascii.specs.Texts.{codes}
use Rattle.labels.specs.declared.places.Layout.{Layout}
use Rattle.labels.specs.declared.places.Layout.TheVariants.{Ticket, Settlement}
use Rattle.labels.specs.declared.places.Line.{Line}
use Rattle.labels.specs.declared.places.Line.TheVariants.{Head, Grower, Pilot, Pair}
use Rattle.labels.specs.declared.places.Spot.{Spot}
use Rattle.labels.specs.Spots.{spot_of}

abbrev pub subject : Line → List ℕ
subject Head = []
subject (Grower i) = codes "grower " ++ numeral i
subject (Pilot j) = codes "pilot " ++ numeral j
subject (Pair i j) = codes "pair " ++ (numeral i ++ (codes " " ++ numeral j))

-- Words and what parts them from the next, if there are any.
abbrev pub joined : List ℕ → List ℕ → List ℕ
joined [] between = []
joined (c ∷ words) between = (c ∷ words) ++ between

abbrev pub lead : List ℕ → Line → List ℕ
lead between line = joined (subject line) between

-- The names of the numbers on the first line, and of a pair's.
abbrev pub kind_name : Layout → List ℕ
kind_name Ticket = codes "ticket kind"
kind_name Settlement = codes "settlement kind"

abbrev pub head_name : Layout → ℕ → List ℕ
head_name l c = cond (eqb c 0) (kind_name l) (cond (eqb c 1) (codes "growers") (codes "pilots"))

abbrev pub term_name : ℕ → List ℕ
term_name c =
    cond (eqb c 0) (codes "tariff cap")
    (cond (eqb c 1) (codes "gain")
    (cond (eqb c 2) (codes "pay")
    (cond (eqb c 3) (codes "free cap") (codes "joint gain"))))

abbrev pub agreed_name : ℕ → List ℕ
agreed_name c = cond (eqb c 0) (codes "tariff hours") (cond (eqb c 1) (codes "free-deal hours") (codes "pay"))

abbrev pub pair_name : Layout → ℕ → List ℕ
pair_name Ticket c = term_name c
pair_name Settlement c = agreed_name c

abbrev pub field_name : Layout → Line → ℕ → List ℕ
field_name l Head c = head_name l c
field_name l (Grower i) c = codes "hours"
field_name l (Pilot j) c = codes "hours"
field_name l (Pair i j) c = pair_name l c

-- What is said of a place: `pair 3 7, joint gain`.
abbrev pub spot_name : Layout → Spot → List ℕ
spot_name l s = lead (codes ", ") s.line ++ field_name l s.line s.column

abbrev pub name : Layout → ℕ → ℕ → ℕ → List ℕ
name l n m p = spot_name l (spot_of l n m p)

-- What stands before a number in a text: the subject only at the first number of its line.
abbrev pub opening : ℕ → Line → List ℕ
opening c line = cond (eqb c 0) (lead (codes " ") line) []

abbrev pub spot_label : Layout → Spot → List ℕ
spot_label l s = opening s.column s.line ++ (field_name l s.line s.column ++ codes " ")

abbrev pub label : Layout → ℕ → ℕ → ℕ → List ℕ
label l n m p = spot_label l (spot_of l n m p)

-- A line begins at a place.
abbrev pub begins : Layout → ℕ → ℕ → ℕ → Bool
begins l n m p = eqb (spot_of l n m p).column 0
