-- Every refusal with its number and its layer.
use Rattle.std.specs.Prelude.{ℕ, List, codes}
use Rattle.fault.specs.declared.refusal.Layer.{Layer}
use Rattle.fault.specs.declared.refusal.Layer.TheVariants.{Packet, Block, Board, Memory}
use Rattle.fault.specs.declared.refusal.Refusal.{Refusal}
use Rattle.fault.specs.declared.refusal.Refusal.TheVariants.{PacketLength, ErrorByte, ReservedAddress, AdvancedFormat, IdleForm, NoInstruction, ReservedInstruction, InstructionLength, AccessoryHead, BlockLength, UnknownKind, BodyCutOff, NonzeroFill, FittedAddress, BankFull, TooFewCells, LentTooShort, NoSuchDecoder, NumberOutOfRange, FieldOutOfRange, PlaceTooShort, CellOutOfRange}

abbrev pub row : Refusal → ℕ × Layer
row PacketLength = (1, Packet)
row ErrorByte = (2, Packet)
row ReservedAddress = (3, Packet)
row AdvancedFormat = (4, Packet)
row IdleForm = (5, Packet)
row NoInstruction = (6, Packet)
row ReservedInstruction = (7, Packet)
row InstructionLength = (8, Packet)
row AccessoryHead = (9, Packet)
row BlockLength = (10, Block)
row UnknownKind = (11, Block)
row BodyCutOff = (12, Block)
row NonzeroFill = (13, Block)
row FittedAddress = (14, Board)
row BankFull = (15, Board)
row TooFewCells = (16, Board)
row LentTooShort = (17, Board)
row NoSuchDecoder = (18, Board)
row NumberOutOfRange = (19, Board)
row FieldOutOfRange = (20, Packet)
row PlaceTooShort = (21, Packet)
row CellOutOfRange = (22, Memory)

-- the word for a layer, by its bytes
abbrev pub layer_name : Layer → List ℕ
layer_name Packet = codes "packet"
layer_name Block = codes "block"
layer_name Board = codes "board"
layer_name Memory = codes "memory"
