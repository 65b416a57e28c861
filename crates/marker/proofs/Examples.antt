-- The ten rows, in one: the definitions give each of them.
-- Assumes nothing.
use mathlib.Core.Path.{refl}
use Rattle.grid.specs.First.{first}
use Rattle.grid.specs.Sum.{sum}
use Rattle.groups.specs.Groups.{read_from}
use Rattle.reader.specs.Walk.{walk, form}
use Rattle.verdicts.specs.Tests.{cheapest_of}
use Rattle.marker.specs.Examples.{Examples}

pub examples : Examples
unfolding form walk read_from first sum cheapest_of
examples = record {
  a1 = refl;
  a2 = refl;
  a3 = refl;
  a4 = refl;
  b1 = refl;
  b2 = refl;
  b3 = refl;
  c1 = refl;
  c2 = refl;
  d1 = refl;
}
