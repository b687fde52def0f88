-- Fitting decoders, one after the other.
use Rattle.std.specs.Prelude.{ℕ, ◌+◌, ◌*◌, Bool, cond, ◌&&◌, List, [], ◌∷◌, ◌++◌, map, length, Ok, Err, Option, Result, nat_le, nat_lt}
use Rattle.fault.specs.declared.fault.Fault.{Fault}
use Rattle.fault.specs.declared.refusal.Refusal.TheVariants.{FittedAddress, BankFull, TooFewCells}
use Rattle.decoder.specs.declared.role.Address.TheVariants.{Short, Long}
use Rattle.decoder.specs.Fitted.{mobile_fitted, basic_fitted, extended_fitted}
use Rattle.bank.specs.declared.kind.Kind.{Kind}
use Rattle.bank.specs.declared.kind.Kind.TheVariants as kind
use Rattle.bank.specs.Kinds.{count_of}
use Rattle.script.specs.declared.name.DecoderName.{DecoderName}
use Rattle.script.specs.declared.fit.Fit.{Fit}
use Rattle.script.specs.declared.fit.Fit.TheVariants.{Mobile, Basic, Extended}
use Rattle.script.specs.Decoders.{Decoder, of_kind, refused_by}
use Rattle.script.specs.Decoders.Decoder.{mobile, basic, extended}
use Rattle.script.specs.Boards.{Lent, bank_size}

abbrev pub fit_kind : Fit → Kind
fit_kind (Mobile a) = kind.Mobile
fit_kind (Basic a) = kind.Basic
fit_kind (Extended a) = kind.Extended

-- the decoder as it is fitted, whatever the bank and the memory held
abbrev pub fitted : Fit → Decoder
fitted (Mobile a) = mobile (mobile_fitted a)
fitted (Basic a) = basic (basic_fitted a)
fitted (Extended a) = extended (extended_fitted a)

-- the addresses that a decoder can have: no broadcast is one
abbrev pub is_address : Fit → Bool
is_address (Mobile (Short a)) = nat_le 1 a && nat_le a 127
is_address (Mobile (Long a)) = nat_le a 10239
is_address (Basic a) = nat_le a 510
is_address (Extended a) = nat_le a 2046

-- a fitting after those of the kinds ks, to a bank of so many places and a memory of so many cells: first its address,
-- then a place on the board and in the bank, then the cells
abbrev pub fitting_in : ℕ → ℕ → List Kind → Fit → Result ℕ Fault
fitting_in places cells ks f =
    cond (is_address f)
    (cond (nat_lt (length ks) 32 && nat_lt (count_of ks (fit_kind f)) places)
    (cond (nat_le (1024 * length ks + 1024) cells)
    (Ok (count_of ks (fit_kind f)))
    (Err (refused_by TooFewCells))) (Err (refused_by BankFull))) (Err (refused_by FittedAddress))

abbrev pub fitting : Lent → List Kind → Fit → Result ℕ Fault
fitting l ks f = fitting_in (bank_size (fit_kind f) l) (length l.cells) ks f

-- the decoders that are fitted once this one was answered
abbrev pub joining : List Fit → Fit → Result ℕ Fault → List Fit
joining fs f (Ok j) = fs ++ f ∷ []
joining fs f (Err e) = fs

-- all of a list of fittings in turn, after those that were accepted: a refused one is passed over
abbrev pub accepted_after : Lent → List Fit → List Fit → List Fit
accepted_after l done [] = done
accepted_after l done (f ∷ fs) = accepted_after l (joining done f (fitting l (map fit_kind done) f)) fs

abbrev pub accepted : Lent → List Fit → List Fit
accepted l fs = accepted_after l [] fs

abbrev pub fit_answers_after : Lent → List Fit → List Fit → List (Result ℕ Fault)
fit_answers_after l done [] = []
fit_answers_after l done (f ∷ fs) = fitting l (map fit_kind done) f ∷ fit_answers_after l (joining done f (fitting l (map fit_kind done) f)) fs

abbrev pub fit_answers : Lent → List Fit → List (Result ℕ Fault)
fit_answers l fs = fit_answers_after l [] fs

-- the fitting of the decoder of a name
abbrev pub fit_of : DecoderName → List Fit → Option Fit
fit_of n fs = of_kind fit_kind n.kind n.number fs
