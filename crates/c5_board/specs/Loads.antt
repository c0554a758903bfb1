-- Looks that change no word.
use Rattle.std.specs.Prelude.{List}
use Rattle.std.specs.List.{AllByRecursion}
use Rattle.c5_board.specs.declared.known.Look.{Look}
use Rattle.c5_board.specs.declared.known.Look.TheVariants.{LoadHead, ExchangeHead, LoadProgress}
use Rattle.c5_board.specs.declared.known.Look.TheVariants.{LoadVisible, LoadRecord, LoadScheduled}
use Rattle.c5_board.specs.declared.known.Look.TheVariants.{LoadBucket}

-- the step was a load, and not an exchange
abbrev pub IsLoad : Look → Type 0
IsLoad (LoadHead row found) = Unit {0}
IsLoad (ExchangeHead w found) = ⊥
IsLoad (LoadProgress i found) = Unit {0}
IsLoad (LoadVisible found) = Unit {0}
IsLoad (LoadRecord w found) = Unit {0}
IsLoad (LoadScheduled found) = Unit {0}
IsLoad (LoadBucket j found) = Unit {0}

abbrev pub AreLoads : List Look → Type 0
AreLoads looks = AllByRecursion IsLoad looks
