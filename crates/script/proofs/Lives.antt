-- A decoder's life in parts.
use Rattle.std.proofs.Common.{◌≡◌, List, [], ◌∷◌, ◌++◌, refl, ap}
use Rattle.decoder.specs.Alone.{Own, Rules, Event, live, life, mobile_rules, basic_rules, extended_rules}
use Rattle.script.specs.Decoders.{Decoder, kind_of, lives}
use Rattle.script.specs.Decoders.Decoder.{mobile, basic, extended}

life_more : {X : Type 0} (m : Rules X) (o : Own X) (es fs : List Event) → life m o (es ++ fs) ≡ life m (life m o es) fs
life_more m o [] fs = refl
life_more m o (e ∷ es) fs = life_more m (live m o e) es fs

pub lives_none : (d : Decoder) → lives d [] ≡ d
unfolding lives
lives_none (mobile o) = refl
lives_none (basic o) = refl
lives_none (extended o) = refl

pub lives_more : (d : Decoder) (es fs : List Event) → lives d (es ++ fs) ≡ lives (lives d es) fs
unfolding lives
lives_more (mobile o) es fs = ap mobile (life_more mobile_rules o es fs)
lives_more (basic o) es fs = ap basic (life_more basic_rules o es fs)
lives_more (extended o) es fs = ap extended (life_more extended_rules o es fs)

pub kind_lives : (es : List Event) (d : Decoder) → kind_of (lives d es) ≡ kind_of d
unfolding lives
kind_lives es (mobile o) = refl
kind_lives es (basic o) = refl
kind_lives es (extended o) = refl
