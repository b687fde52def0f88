-- What is lent to a board, and the decoders that it holds for the board.
use Rattle.std.specs.Prelude.{◌≡◌, ℕ, ◌*◌, ◌≤◌, Bool, ◌&&◌, List, map, length, nat_le, slice_index, slice_index_or}
use Rattle.std.specs.List.{range_with_len}
use Rattle.memory.specs.Cells.{Outside}
use Rattle.state.specs.Starting.{mobile_start, basic_start, extended_start}
use Rattle.decoder.specs.declared.records.Mobile as mobile-record
use Rattle.decoder.specs.Fresh as accessory-record
use Rattle.bank.specs.declared.kind.Kind.{Kind}
use Rattle.bank.specs.declared.kind.Kind.TheVariants.{Mobile, Basic, Extended}
use Rattle.bank.specs.Kinds.{is_kind, count_of}
use Rattle.bank.specs.Banks.{own_at, has_records}
use Rattle.script.specs.Decoders.{Decoder, RecordOf, decoder_as}

-- the three banks, the cells of the memory, and what lies outside of those where it is a part of another memory
pub record Lent : Type 0 where
  pub mobiles : List mobile-record.Mobile
  pub basics : List accessory-record.Basic
  pub extendeds : List accessory-record.Extended
  pub cells : List ℕ
  pub outside : List Outside

abbrev pub lent : List mobile-record.Mobile → List accessory-record.Basic → List accessory-record.Extended → List ℕ → List Outside → Lent
lent ms bs es cells outside = record { mobiles = ms; basics = bs; extendeds = es; cells = cells; outside = outside }

-- the bank of a kind, and how many records it has
abbrev pub bank_of : (k : Kind) → Lent → List (RecordOf k)
bank_of Mobile l = l.mobiles
bank_of Basic l = l.basics
bank_of Extended l = l.extendeds

abbrev pub bank_size : Kind → Lent → ℕ
bank_size k l = length (bank_of k l)

-- a record and a window for each decoder that was fitted
abbrev pub is_lent : List Kind → Lent → Bool
is_lent ks l =
    has_records ks Mobile l.mobiles
    && (has_records ks Basic l.basics
    && (has_records ks Extended l.extendeds
    && nat_le (1024 * length ks) (length l.cells)))

-- what a record that a bank has not is read as
abbrev pub spare_of : (k : Kind) → RecordOf k
spare_of Mobile = record { state = mobile_start }
spare_of Basic = record { address = 0; state = basic_start }
spare_of Extended = record { address = 0; state = extended_start }

-- the decoder in the slot s, which is of the kind k: the record of its number in its bank, and its window
abbrev pub decoder_in : Kind → List Kind → Lent → ℕ → Decoder
decoder_in k ks l s = decoder_as k (own_at (is_kind ks k) (spare_of k) (bank_of k l) l.cells s)

-- the slots are in the order of fitting
unfoldable pub decoder_at : List Kind → Lent → ℕ → Decoder
decoder_at ks l s = decoder_in (slice_index_or ks s Mobile) ks l s

-- all decoders of a board that has slots of these kinds
unfoldable pub decoders : List Kind → Lent → List Decoder
decoders ks l = map (decoder_at ks l) (range_with_len 0 (length ks))

-- all else is as it was: the sizes, the records and the cells beyond the fitted, and what lies outside
pub record Rest (ks : List Kind) (l l' : Lent) : Type 0 where
  pub sizes : (k : Kind) → bank_size k l' ≡ bank_size k l
  pub size : length l'.cells ≡ length l.cells
  pub records : (k : Kind) (x : RecordOf k) (j : ℕ) → count_of ks k ≤ j → slice_index_or (bank_of k l') j x ≡ slice_index_or (bank_of k l) j x
  pub cells : (c : ℕ) → 1024 * length ks ≤ c → slice_index l'.cells c ≡ slice_index l.cells c
  pub outside : l'.outside ≡ l.outside
