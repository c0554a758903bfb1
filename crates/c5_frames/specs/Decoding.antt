-- How a decoder holds the bytes that were taken, and what they lead to.
use Rattle.std.specs.Prelude.{ℕ, List}
use Rattle.c5_frames.specs.declared.decoder.Decoder.TheInside.{Inside}
use Rattle.c5_frames.specs.DecoderStates.{Decodes}

abbrev pub bytes_of : Inside → List ℕ
bytes_of d = d.bytes.items

abbrev pub IsDecoder : Inside → Type 0
IsDecoder d = Decodes d.bytes.items d.progress d.fault
