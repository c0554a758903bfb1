-- What `clone` prints of a script.
use Rattle.std.specs.Prelude.{◌≡◌, ℕ, List, length}
use Rattle.std.specs.List.{range_with_len}
use Rattle.std.specs.List.Sorted.{IsPermutation}
use Rattle.c5_definitions.specs.Outputs.{clone_text}
use Rattle.c5_definitions.specs.Replies.{AreLawfulPlaces, in_reply_order}
use Rattle.c5_definitions.specs.ScriptParts.{ScriptParts}

-- the text has an order that names each body once, the replies to the reads at some lawful places
-- of the bodies' serial run in that order, and all rows after the run
pub record IsCloneOf (script : ScriptParts) (text : List ℕ) : Type 0 where
  pub order : List ℕ
  pub places : List ℕ
  pub each_once : IsPermutation (range_with_len 0 (length script.bodies)) order
  pub lawful : AreLawfulPlaces (in_reply_order script.reads) (length order) places
  pub printed : text ≡ clone_text script order places
