use Rattle.c5_definitions.proofs.IndexLemmas.{buckets_suffice, rows_are_indexed}
use Rattle.c5_definitions.proofs.number_laws.index_law.Goals as goal

pub returns : goal.returns
returns c = record { buckets = buckets_suffice; rows = rows_are_indexed }
