-- The test of an entry decides whether it fits. Assumes nothing.
use Rattle.std.proofs.Common.{ℕ, List, Decides}
use Rattle.std.proofs.lemmas.Slice.Eq.{bytes_eq-Decides}
use Rattle.std.proofs.lemmas.Bool.Decides.{Decides-eqb, Decides-and}
use Rattle.plant.specs.declared.listed.Entry.{Entry}
use Rattle.plant.specs.Listed.{list_of, fits, Fits}

pub decides_fits : (symbol : ℕ) (values : List ℕ) (e : Entry) → Decides (fits symbol values e) (Fits symbol values e)
decides_fits symbol values e = Decides-and _ _ (Decides-eqb e.symbol symbol) (bytes_eq-Decides (list_of e.values) values)
