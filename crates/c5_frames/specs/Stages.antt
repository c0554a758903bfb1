-- The stages of the decoder as items of a log.
use Rattle.std.specs.Prelude.{Bool, true, false}
use Rattle.c5_definitions.specs.Items.{Item, the_magic, table_count, name_length, table_name}
use Rattle.c5_definitions.specs.Items.{column_count, column_types, frame_length, frame_payload}
use Rattle.c5_definitions.specs.Items.{nothing_more}
use Rattle.c5_frames.specs.declared.stage.Stage.{Stage}
use Rattle.c5_frames.specs.declared.stage.Stage.TheVariants as stages

-- the item that a stage names
abbrev pub item_of : Stage → Item
item_of stages.Magic = the_magic
item_of stages.TableCount = table_count
item_of (stages.NameLength missing) = name_length missing
item_of (stages.NameBytes missing size) = table_name missing size
item_of (stages.ColumnCount missing name) = column_count missing name
item_of (stages.ColumnTypes missing name size) = column_types missing name size
item_of stages.FrameLength = frame_length
item_of (stages.Payload size) = frame_payload size
item_of stages.NothingMore = nothing_more

-- the end mark has been read
abbrev pub is_end : Item → Bool
is_end nothing_more = true
is_end item = false
