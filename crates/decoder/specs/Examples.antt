-- Twelve packets, and what the decoders hold afterwards that hear them.
use Rattle.std.specs.Prelude.{◌≡◌, ℕ, true, false, List, [], ◌∷◌, replicate, Some, None, Err, Option, slice_set}
use Rattle.fault.specs.declared.refusal.Refusal.TheVariants.{ReservedInstruction, InstructionLength}
use Rattle.format.specs.Reading.{packet_read}
use Rattle.state.specs.declared.scale.Scale.{Scale}
use Rattle.state.specs.declared.scale.Scale.TheVariants.{Fourteen, TwentyEight, OneTwentySix}
use Rattle.state.specs.declared.speed.Speed.{Speed}
use Rattle.state.specs.declared.speed.Speed.TheVariants.{Stop, EmergencyStop, Running}
use Rattle.state.specs.Groups.{function_at}
use Rattle.state.specs.Kept.{state_at}
use Rattle.decoder.specs.declared.records.Mobile.{Mobile}
use Rattle.decoder.specs.Fresh.{Basic, Extended, fresh_mobile, fresh_basic, fresh_extended}
use Rattle.decoder.specs.Alone.{Own, Event, own, variable, hearing, life, mobile_rules, basic_rules, extended_rules}
use Rattle.decoder.specs.Alone.Event.{heard}

-- a mobile decoder at power-up, by its variables 1, 17, 18 and 29
abbrev pub mobile_with : ℕ → ℕ → ℕ → ℕ → Own Mobile
mobile_with short high low config =
    own fresh_mobile (slice_set (slice_set (slice_set (slice_set (replicate 1024 0) 0 short) 16 high) 17 low) 28 config)

-- short address 3 in 28 steps and in 14, and long address 1000
abbrev pub mobile3 : Own Mobile
mobile3 = mobile_with 3 192 0 2

abbrev pub mobile3in14 : Own Mobile
mobile3in14 = mobile_with 3 192 0 0

abbrev pub mobile1000 : Own Mobile
mobile1000 = mobile_with 3 195 232 34

abbrev pub basic_at : ℕ → Own Basic
basic_at a = own (fresh_basic a) (replicate 1024 0)

abbrev pub extended_at : ℕ → Own Extended
extended_at a = own (fresh_extended a) (replicate 1024 0)

-- the step and its scale, where the decoder runs
abbrev pub step_in : Speed → Option (ℕ × Scale)
step_in Stop = None
step_in EmergencyStop = None
step_in (Running s) = Some (s.number, s.scale)

abbrev pub packets : List (List ℕ) → List Event
packets [] = []
packets (bs ∷ rest) = heard bs ∷ packets rest

-- the decoder after some packets
abbrev pub mobile_hears : Own Mobile → List (List ℕ) → Own Mobile
mobile_hears o ps = life mobile_rules o (packets ps)

abbrev pub speed_step : List ℕ
speed_step = 0x03 ∷ 0x74 ∷ 0x77 ∷ []

abbrev pub write_four : List ℕ
write_four = 0x03 ∷ 0xec ∷ 0x03 ∷ 0x0a ∷ 0xe6 ∷ []

pub record Examples : Type 0 where
  -- broadcast reset: all of the volatile part
  pub reset : mobile_hears mobile3 (speed_step ∷ (0x00 ∷ 0x00 ∷ 0x00 ∷ []) ∷ []) ≡ mobile3
  -- idle: nobody hears it
  pub idle_mobile : hearing mobile_rules mobile3 (packet_read (0xff ∷ 0x00 ∷ 0xff ∷ [])) ≡ None
  pub idle_basic : hearing basic_rules (basic_at 1) (packet_read (0xff ∷ 0x00 ∷ 0xff ∷ [])) ≡ None
  pub idle_extended : hearing extended_rules (extended_at 1) (packet_read (0xff ∷ 0x00 ∷ 0xff ∷ [])) ≡ None
  -- step 6 of 28 forward, or FL on and step 3 of 14
  pub step28 : step_in (mobile_hears mobile3 (speed_step ∷ [])).rec.state.speed ≡ Some (6, TwentyEight)
  pub forward28 : (mobile_hears mobile3 (speed_step ∷ [])).rec.state.forward ≡ true
  pub light28 : function_at (mobile_hears mobile3 (speed_step ∷ [])).rec.state.functions.on 0 ≡ Some false
  pub step14 : step_in (mobile_hears mobile3in14 (speed_step ∷ [])).rec.state.speed ≡ Some (3, Fourteen)
  pub light14 : function_at (mobile_hears mobile3in14 (speed_step ∷ [])).rec.state.functions.on 0 ≡ Some true
  -- step 126
  pub step126 : step_in (mobile_hears mobile3 ((0x03 ∷ 0x3f ∷ 0xff ∷ 0xc3 ∷ []) ∷ [])).rec.state.speed ≡ Some (126, OneTwentySix)
  -- long 1000, FL on
  pub light1000 : function_at (mobile_hears mobile1000 ((0xc3 ∷ 0xe8 ∷ 0x90 ∷ 0xbb ∷ []) ∷ [])).rec.state.functions.on 0 ≡ Some true
  -- basic 1, output 0 on; to all basic
  pub output : (life basic_rules (basic_at 1) (packets ((0x81 ∷ 0xf8 ∷ 0x79 ∷ []) ∷ []))).rec.state.shown ≡ slice_set (replicate 8 false) 0 true
  pub all_basic : (life basic_rules (basic_at 200) (packets ((0xbf ∷ 0x88 ∷ 0x37 ∷ []) ∷ []))).rec.state.shown ≡ slice_set (replicate 8 false) 0 true
  -- extended 1, aspect 5
  pub aspect : (life extended_rules (extended_at 1) (packets ((0x80 ∷ 0x73 ∷ 0x05 ∷ 0xf6 ∷ []) ∷ []))).rec.state.shown ≡ 5
  -- state 129 on
  pub state129 : state_at (mobile_hears mobile3 ((0x03 ∷ 0xc0 ∷ 0x81 ∷ 0x01 ∷ 0x43 ∷ []) ∷ [])).rec.state.states.bits 129 ≡ Some true
  -- twice: variable 4 is 10; once, or with another packet between, it is not
  pub twice : variable (mobile_hears mobile3 (write_four ∷ write_four ∷ [])).vars 4 ≡ 10
  pub once : variable (mobile_hears mobile3 (write_four ∷ [])).vars 4 ≡ 0
  pub between : variable (mobile_hears mobile3 (write_four ∷ speed_step ∷ write_four ∷ [])).vars 4 ≡ 0
  -- two refusals
  pub reserved : packet_read (0x03 ∷ 0xe0 ∷ 0x00 ∷ 0x00 ∷ 0xe3 ∷ []) ≡ Err ReservedInstruction
  pub too_long : packet_read (0x03 ∷ 0x74 ∷ 0x74 ∷ 0x03 ∷ []) ≡ Err InstructionLength
