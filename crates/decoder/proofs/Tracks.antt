-- The laws of the rules. Assumes nothing.
use Rattle.std.proofs.Common.{◌≡◌, ℕ, ◌+◌, ◌-◌, ◌<◌, ◌≤◌, Bool, true, false, cond, not, ◌&&◌, ◌||◌, ltb, leb, ◌⊎◌, List, ◌++◌, length, get_or, take, drop, Some, None, Ok, Option, is_some, refl, ap, ◌∙◌, ⊎_elim, arith}
use Rattle.std.proofs.lemmas.List.{get_or_append_left, get_or-append_right, get_or-take, get_or-drop, get_or-set_same, get_or-set_other, length-take-le, length-append}
use Rattle.std.proofs.lemmas.Bool.{true≢false, false≢true, cases_lt}
use Rattle.std.proofs.lemmas.Bool.Decides.{nat_tests}
use Rattle.packet.specs.declared.instruction.FunctionGroup.TheVariants.{F0ToF4}
use Rattle.packet.specs.declared.instruction.Instruction.{Instruction}
use Rattle.packet.specs.declared.instruction.Instruction.TheVariants.{Reset, HardReset, AdvancedAddressing, Consist, Speed, Speed126, Functions, AccelerationAdjustment, DecelerationAdjustment, VerifyByte, WriteByte, VerifyBit, WriteBit}
use Rattle.packet.specs.declared.target.Target.{Target}
use Rattle.packet.specs.Groups.{lowest_of, width_of}
use Rattle.format.specs.Reading.{packet_of, packet_read}
use Rattle.state.specs.declared.waiting.WaitingWrite.{WaitingWrite}
use Rattle.state.specs.Bits.{bit_of}
use Rattle.state.specs.Groups.{low_bits, pasted, lit, switched}
use Rattle.state.proofs.Lows.{length-low_bits, low_bit}
use Rattle.state.specs.Packing.{packed, matches}
use Rattle.decoder.specs.declared.effect.Access.{Access}
use Rattle.decoder.specs.declared.effect.Effect.TheVariants as effect
use Rattle.decoder.specs.declared.records.Mobile.{Mobile}
use Rattle.decoder.specs.declared.role.Role.{Role}
use Rattle.decoder.specs.declared.role.Role.TheVariants as role
use Rattle.decoder.specs.Accesses.{access_of, agrees, result, barred, writes_by, is_write, access_acts, accessed}
use Rattle.decoder.specs.Accessories.{AccessoryKind, basic_kind, extended_kind}
use Rattle.decoder.specs.Mobiles.{access_effect, sped, with_functions}
use Rattle.state.specs.declared.volatile.MobileState.{MobileState}
use Rattle.state.specs.declared.scale.Scale.TheVariants.{Fourteen, TwentyEight}
use Rattle.decoder.specs.Alone.{Own, Rules, variable, named, applied, in_role, hearing, obeyed, live, mobile_rules, accessory_rules}
use Rattle.decoder.specs.Alone.Event.{heard}
use Rattle.decoder.proofs.Acts.{switches_act}
use Rattle.decoder.proofs.Begun.{powers_up, fits}
use Rattle.decoder.proofs.Consists.{hard_resets, speed_in_consist, instructions_put}
use Rattle.decoder.proofs.Gone.{speeds_in_order, speed_acts, functions_told}
use Rattle.decoder.proofs.Grouped.{groups_name_each}
use Rattle.decoder.proofs.Spans.{groups_as_called}
use Rattle.decoder.proofs.Hearings.{hears_its_own, has_an_address, hears_its_kind, hears_all, hears_as_addressed}
use Rattle.decoder.proofs.Lawfuls.{same_cond}
use Rattle.decoder.proofs.Same.{packets_wait}
use Rattle.decoder.proofs.Replied.{mobile_replies, basic_replies, extended_replies}
use Rattle.decoder.proofs.Settings.{mobile_settings, accessory_settings}
use Rattle.decoder.proofs.Showings.{others_keep as keeps_others, accessories_show}
use Rattle.decoder.proofs.States.{states_switch_one, states_switch_together}
use Rattle.decoder.proofs.StateZero.{number_zero_stays_off}
use Rattle.decoder.proofs.Verified.{mobile_writes, basic_writes, extended_writes}
use Rattle.decoder.proofs.Sounds.{Apart, Sound, basic_sound, extended_sound}
use Rattle.decoder.specs.Laws.{KindLaws, ResetIsPowerUp, ByConsistOnlySpeed, GroupsSwitchTheirOwn, is_in_group, LightByGroupOne, OthersKeepFunctions, touches_variables, OthersKeepVariables, Laws}

module _ {X : Type 0} (m : Rules X) where
  unheard : (o : Own X) (bs : List ℕ) → hearing m o (packet_read bs) ≡ None → live m o (heard bs) ≡ o
  unheard o bs e = ap (obeyed m o bs) e

  obeys : (o : Own X) (t : Target) (r : Role) (bs : List ℕ) (i : Instruction) → packet_read bs ≡ Ok (packet_of t i) → m.hears o t ≡ Some r → live m o (heard bs) ≡ m.obeys o r bs i
  obeys o t r bs i e f = ap (λ p. obeyed m o bs (hearing m o p)) e ∙ ap (λ h. obeyed m o bs (in_role m h i)) f

-- a write that does not repeat leaves the variables
first_keeps :
    (offset : ℕ) (w : Option WaitingWrite) (p : WaitingWrite) (a : Option Access) (vars : List ℕ)
    → writes_by a ≡ true
    → matches w p ≡ false
    → applied (cond (access_acts w p (accessed a (named offset vars a))) (access_effect (accessed a (named offset vars a))) None) vars ≡ vars
first_keeps offset w p None vars e f = absurd (false≢true e)
first_keeps offset w p (Some a) vars e f = go a.writes (matches w p) e f
  where
    v : ℕ
    v = variable vars a.cv.number

    go : (writes same : Bool) → writes ≡ true → same ≡ false → applied (cond (cond writes (same && not (barred offset a.cv.number)) (agrees a.change v)) (cond writes (Some (effect.Put a.cv (result a.change v))) None) None) vars ≡ vars
    go true false e f = refl
    go true true e f = absurd (true≢false f)
    go false same e f = absurd (false≢true e)

mobile_first : (o : Own Mobile) (r : Role) (bs : List ℕ) (i : Instruction) → is_write i ≡ true → matches o.rec.state.waiting (packed bs) ≡ false → (mobile_rules.obeys o r bs i).vars ≡ o.vars
mobile_first o role.Consist bs (WriteByte cv value) e f = refl
mobile_first o role.Consist bs (WriteBit cv bit value) e f = refl
mobile_first o r bs (WriteByte cv value) e f = first_keeps 0 o.rec.state.waiting (packed bs) (access_of (WriteByte cv value)) o.vars e f
mobile_first o r bs (WriteBit cv bit value) e f = first_keeps 0 o.rec.state.waiting (packed bs) (access_of (WriteBit cv bit value)) o.vars e f
mobile_first o r bs i e f = absurd (false≢true e)

accessory_first :
    {Y : Type 0} (own : Option Y) (a : Option Access) (w : Option WaitingWrite) (p : WaitingWrite) (vars : List ℕ)
    → Apart own a
    → writes_by a ≡ true
    → matches w p ≡ false
    → applied (cond (is_some own || access_acts w p (accessed a (named 512 vars a))) (access_effect (accessed a (named 512 vars a))) None) vars ≡ vars
accessory_first None a w p vars h e f = first_keeps 512 w p a vars e f
accessory_first (Some y) None w p vars h e f = absurd (false≢true e)
accessory_first (Some y) (Some a) w p vars h e f = absurd (true≢false h)

-- a variable that is barred stays
barred_at : (offset n : ℕ) → (n ≡ offset + 7) ⊎ (n ≡ offset + 8) → barred offset n ≡ true
barred_at offset n h = ⊎_elim (λ e. grind (arith, nat_tests)) (λ e. grind (arith, nat_tests)) h

barred_stays :
    (offset : ℕ) (w : Option WaitingWrite) (p : WaitingWrite) (a : Access) (vars : List ℕ)
    → (a.cv.number ≡ offset + 7) ⊎ (a.cv.number ≡ offset + 8)
    → applied (cond (access_acts w p (accessed (Some a) (named offset vars (Some a)))) (access_effect (accessed (Some a) (named offset vars (Some a)))) None) vars ≡ vars
barred_stays offset w p a vars h = go a.writes (matches w p) (barred offset a.cv.number) (agrees a.change v) (barred_at offset a.cv.number h)
  where
    v : ℕ
    v = variable vars a.cv.number

    go : (writes same bar said : Bool) → bar ≡ true → applied (cond (cond writes (same && not bar) said) (cond writes (Some (effect.Put a.cv (result a.change v))) None) None) vars ≡ vars
    go false same bar true e = refl
    go false same bar false e = refl
    go true false bar said e = refl
    go true true true said e = refl
    go true true false said e = absurd (false≢true e)

-- by the long form that an instruction is
any_stays :
    (offset : ℕ) (w : Option WaitingWrite) (p : WaitingWrite) (l : Option Access) (a : Access) (vars : List ℕ)
    → l ≡ Some a
    → (a.cv.number ≡ offset + 7) ⊎ (a.cv.number ≡ offset + 8)
    → applied (cond (access_acts w p (accessed l (named offset vars l))) (access_effect (accessed l (named offset vars l))) None) vars ≡ vars
any_stays offset w p l a vars e h = rw e (barred_stays offset w p a vars h)

mobile_read_only : (o : Own Mobile) (r : Role) (bs : List ℕ) (i : Instruction) (a : Access) → access_of i ≡ Some a → (a.cv.number ≡ 0 + 7) ⊎ (a.cv.number ≡ 0 + 8) → (mobile_rules.obeys o r bs i).vars ≡ o.vars
mobile_read_only o role.Consist bs (VerifyByte cv value) a e h = refl
mobile_read_only o role.Consist bs (WriteByte cv value) a e h = refl
mobile_read_only o role.Consist bs (VerifyBit cv bit value) a e h = refl
mobile_read_only o role.Consist bs (WriteBit cv bit value) a e h = refl
mobile_read_only o r bs (VerifyByte cv value) a e h = any_stays 0 o.rec.state.waiting (packed bs) (access_of (VerifyByte cv value)) a o.vars e h
mobile_read_only o r bs (WriteByte cv value) a e h = any_stays 0 o.rec.state.waiting (packed bs) (access_of (WriteByte cv value)) a o.vars e h
mobile_read_only o r bs (VerifyBit cv bit value) a e h = any_stays 0 o.rec.state.waiting (packed bs) (access_of (VerifyBit cv bit value)) a o.vars e h
mobile_read_only o r bs (WriteBit cv bit value) a e h = any_stays 0 o.rec.state.waiting (packed bs) (access_of (WriteBit cv bit value)) a o.vars e h
mobile_read_only o r bs i a e h = let z : ◌≡◌ {A = ℕ} 0 1 = cc in absurd (omega arith)

accessory_read_only :
    {Y : Type 0} (own : Option Y) (l : Option Access) (w : Option WaitingWrite) (p : WaitingWrite) (a : Access) (vars : List ℕ)
    → Apart own l
    → l ≡ Some a
    → (a.cv.number ≡ 512 + 7) ⊎ (a.cv.number ≡ 512 + 8)
    → applied (cond (is_some own || access_acts w p (accessed l (named 512 vars l))) (access_effect (accessed l (named 512 vars l))) None) vars ≡ vars
accessory_read_only None l w p a vars apart e h = any_stays 512 w p l a vars e h
accessory_read_only (Some y) None w p a vars apart e h = refl
accessory_read_only (Some y) (Some b) w p a vars apart e h = absurd (true≢false apart)

accessory_laws : {S : Type 0} (k : AccessoryKind S) → Sound k → KindLaws (accessory_rules k)
accessory_laws k sound = record {
  unheard_keeps = unheard (accessory_rules k);
  heard_obeys = obeys (accessory_rules k);
  first_waits = λ o r bs i e f. accessory_first (k.after o.rec.state.shown i) (access_of i) o.rec.state.waiting (packed bs) o.vars (sound.apart _ i) e f;
  read_only = λ o r bs i a e h. accessory_read_only (k.after o.rec.state.shown i) (access_of i) o.rec.state.waiting (packed bs) a o.vars (sound.apart _ i) e h;
}

reset_is_power_up : ResetIsPowerUp
reset_is_power_up o role.Everyone bs n = (refl, refl)
reset_is_power_up o role.Own bs n = (refl, refl)
reset_is_power_up o role.Consist bs n = absurd (n refl)

-- a speed in 28 or 14 steps leaves the states and all functions but FL
short_speed : (s : MobileState) (c forward : Bool) (code : ℕ) → MobileState
short_speed s c forward code = cond c (sped s TwentyEight forward code) (with_functions (sped s Fourteen forward code) (record { on = lit s.functions.on code }))

short_states : (s : MobileState) (c forward : Bool) (code : ℕ) → (short_speed s c forward code).states ≡ s.states
unfolding short_speed
short_states s true forward code = refl
short_states s false forward code = refl

short_functions : (s : MobileState) (c forward : Bool) (code k : ℕ) → 1 ≤ k → get_or (short_speed s c forward code).functions.on k false ≡ get_or s.functions.on k false
unfolding short_speed
short_functions s true forward code k h = refl
short_functions s false forward code k h = get_or-set_other s.functions.on 0 k (bit_of code 4) false (omega arith)

only_speed : ByConsistOnlySpeed
unfolding short_speed
only_speed o bs (Speed126 forward code) = record { vars = refl; states = refl; functions = λ k h. refl; others = λ e. absurd (true≢false e) }
only_speed o bs (Speed forward code) =
    record {
      vars = refl;
      states = short_states o.rec.state _ _ code;
      functions = λ k h. short_functions o.rec.state _ _ code k h;
      others = λ e. absurd (true≢false e);
    }
only_speed o bs i = record { vars = refl; states = refl; functions = λ k h. refl; others = λ e. refl }

-- one function of a list with some of them replaced
pasted_at :
    (fs bs : List Bool) (first k : ℕ)
    → first + length bs ≤ length fs
    → get_or (pasted fs first bs) k false ≡ cond (leb first k && ltb k (first + length bs)) (get_or bs (k - first) false) (get_or fs k false)
pasted_at fs bs first k h = ⊎_elim before (λ l. ⊎_elim (inside l) (behind l) (cases_lt k (first + length bs))) (cases_lt k first)
  where
    cut : length (take first fs) ≡ first
    cut = length-take-le first fs (omega arith)

    goal : Type 0
    goal = get_or (pasted fs first bs) k false ≡ cond (leb first k && ltb k (first + length bs)) (get_or bs (k - first) false) (get_or fs k false)

    before : k < first → goal
    before l =
        let a = get_or_append_left (take first fs) (bs ++ drop (first + length bs) fs) false k (omega (arith, cut)) in
        let b = get_or-take first fs k false l in
        grind (arith, nat_tests)

    right : first ≤ k → get_or (pasted fs first bs) k false ≡ get_or (bs ++ drop (first + length bs) fs) (k - first) false
    right l = get_or-append_right (take first fs) (bs ++ drop (first + length bs) fs) first k false cut l

    inside : first ≤ k → k < first + length bs → goal
    inside l m =
        let a = right l in
        let b = get_or_append_left bs (drop (first + length bs) fs) false (k - first) (omega arith) in
        grind (arith, nat_tests)

    behind : first ≤ k → first + length bs ≤ k → goal
    behind l m =
        let a = right l in
        let b = get_or-append_right bs (drop (first + length bs) fs) (length bs) (k - first) false refl (omega arith) in
        let c = get_or-drop (first + length bs) fs (k - first - length bs) false in
        let e : first + length bs + (k - first - length bs) ≡ k = omega arith in
        let d : get_or fs (first + length bs + (k - first - length bs)) false ≡ get_or fs k false = ap (λ n. get_or fs n false) e in
        grind (arith, nat_tests)

-- a part of the functions as the lowest bits have them
part_at :
    (fs : List Bool) (first n bits k : ℕ)
    → first + n ≤ length fs
    → get_or (pasted fs first (low_bits n bits)) k false ≡ cond (leb first k && ltb k (first + n)) (bit_of bits (k - first)) (get_or fs k false)
part_at fs first n bits k h =
    let e = length-low_bits n bits in
    pasted_at fs (low_bits n bits) first k (omega (arith, e)) ∙ ap (λ w. cond (leb first k && ltb k (first + w)) (get_or (low_bits n bits) (k - first) false) (get_or fs k false)) e ∙ go (leb first k && ltb k (first + n)) refl
  where
    go : (c : Bool) → (leb first k && ltb k (first + n)) ≡ c → cond c (get_or (low_bits n bits) (k - first) false) (get_or fs k false) ≡ cond c (bit_of bits (k - first)) (get_or fs k false)
    go true f = low_bit n bits (k - first) (grind (arith, nat_tests))
    go false f = refl

groups_switch : GroupsSwitchTheirOwn
groups_switch fs F0ToF4 bits k light l h = go light
  where
    part : get_or (pasted fs 1 (low_bits 4 bits)) k false ≡ cond (is_in_group F0ToF4 k) (bit_of bits (k - 1)) (get_or fs k false)
    part = part_at fs 1 4 bits k (omega arith)

    go : (c : Bool) → get_or (switched fs F0ToF4 bits c) k false ≡ cond (is_in_group F0ToF4 k) (bit_of bits (k - 1)) (get_or fs k false)
    go true = get_or-set_other (pasted fs 1 (low_bits 4 bits)) 0 k (bit_of bits 4) false (omega arith) ∙ part
    go false = part
groups_switch fs g bits k light l h = part_at fs (lowest_of g) (width_of g) bits k (omega arith)

light_by_one : LightByGroupOne
light_by_one fs F0ToF4 bits light l = go light
  where
    part : get_or (pasted fs 1 (low_bits 4 bits)) 0 false ≡ get_or fs 0 false
    part = part_at fs 1 4 bits 0 (omega arith)

    size : 0 < length (pasted fs 1 (low_bits 4 bits))
    size = omega (arith, length-append (take 1 fs) (low_bits 4 bits ++ drop 5 fs), length-append (low_bits 4 bits) (drop 5 fs))

    go : (c : Bool) → get_or (switched fs F0ToF4 bits c) 0 false ≡ cond (true && c) (bit_of bits 4) (get_or fs 0 false)
    go true = get_or-set_same (pasted fs 1 (low_bits 4 bits)) 0 (bit_of bits 4) false size
    go false = part
light_by_one fs g bits light l = part_at fs (lowest_of g) (width_of g) bits 0 (omega arith)

-- whether or not it acts
either : (c : Bool) (s u : MobileState) → u.functions ≡ s.functions → (cond c u s).functions ≡ s.functions
either true s u e = e
either false s u e = refl

others_keep : OthersKeepFunctions
others_keep o r bs Reset e = absurd (true≢false e)
others_keep o r bs HardReset e = absurd (true≢false e)
others_keep o r bs (Speed forward code) e = absurd (true≢false e)
others_keep o r bs (Functions group bits) e = absurd (true≢false e)
others_keep o r bs i e = either _ o.rec.state _ refl

-- what is no write leaves the variables, whether or not it acts
no_write_keeps : (offset : ℕ) (acts : Bool) (a : Option Access) (vars : List ℕ) → writes_by a ≡ false → applied (cond acts (access_effect (accessed a (named offset vars a))) None) vars ≡ vars
no_write_keeps offset acts None vars e = same_cond acts vars
no_write_keeps offset acts (Some a) vars e = go acts a.writes e
  where
    go : (c writes : Bool) → writes ≡ false → applied (cond c (cond writes (Some (effect.Put a.cv (result a.change (variable vars a.cv.number)))) None) None) vars ≡ vars
    go true false e = refl
    go true true e = absurd (true≢false e)
    go false writes e = refl

keep_variables : OthersKeepVariables
keep_variables = record {
  mobile = mobile;
  basic = λ o r bs i e. no_write_keeps 512 _ (access_of i) o.vars e;
  extended = λ o r bs i e. no_write_keeps 512 _ (access_of i) o.vars e;
}
  where
    mobile : (o : Own Mobile) (r : Role) (bs : List ℕ) (i : Instruction) → touches_variables i ≡ false → (mobile_rules.obeys o r bs i).vars ≡ o.vars
    mobile o r bs HardReset e = absurd (true≢false e)
    mobile o r bs (AdvancedAddressing on) e = absurd (true≢false e)
    mobile o r bs (Consist reversed address) e = absurd (true≢false e)
    mobile o r bs (AccelerationAdjustment value) e = absurd (true≢false e)
    mobile o r bs (DecelerationAdjustment value) e = absurd (true≢false e)
    mobile o r bs (WriteByte cv value) e = absurd (true≢false e)
    mobile o r bs (WriteBit cv bit value) e = absurd (true≢false e)
    mobile o r bs i e = same_cond _ o.vars

pub laws : Laws
laws = record {
  mobiles = record { unheard_keeps = unheard mobile_rules; heard_obeys = obeys mobile_rules; first_waits = mobile_first; read_only = mobile_read_only };
  basics = accessory_laws basic_kind basic_sound;
  extendeds = accessory_laws extended_kind extended_sound;
  mobile_replies = mobile_replies;
  basic_replies = basic_replies;
  extended_replies = extended_replies;
  resets = reset_is_power_up;
  hard_resets = hard_resets;
  consists = only_speed;
  speeds = speed_in_consist;
  scales = λ s. s.within;
  group_names = groups_name_each;
  groups = groups_switch;
  light = light_by_one;
  functions = others_keep;
  own = hears_its_own;
  addresses = has_an_address;
  kinds = hears_its_kind;
  states = states_switch_one;
  states_together = states_switch_together;
  functions_told = functions_told;
  speed_codes = speeds_in_order;
  speed_acts = speed_acts;
  broadcasts = hears_all;
  puts = instructions_put;
  mobile_writes = mobile_writes;
  basic_writes = basic_writes;
  extended_writes = extended_writes;
  power_up = powers_up;
  fits = fits;
  others_keep = keeps_others;
  accessories = accessories_show;
  packets_wait = packets_wait;
  switches_act = switches_act;
  others_keep_variables = keep_variables;
  as_addressed = hears_as_addressed;
  mobile_settings = mobile_settings;
  basic_settings = accessory_settings basic_kind;
  extended_settings = accessory_settings extended_kind;
  state_zero = number_zero_stays_off;
  group_spans = groups_as_called;
}
