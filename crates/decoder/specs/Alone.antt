-- One decoder alone: its record and its 1024 variables, and what its events do to them.
use Rattle.std.specs.Prelude.{ℕ, ◌-◌, List, [], ◌∷◌, Some, None, Ok, Err, Option, slice_index, slice_set}
use Rattle.packet.specs.declared.cv.CvNumber.{CvNumber}
use Rattle.packet.specs.declared.target.Target.{Target}
use Rattle.packet.specs.declared.instruction.Instruction.{Instruction}
use Rattle.format.specs.Reading.{Told, packet_read}
use Rattle.state.specs.declared.waiting.WaitingWrite.{WaitingWrite}
use Rattle.state.specs.Packing.{packed}
use Rattle.decoder.specs.declared.effect.Access.{Access}
use Rattle.decoder.specs.declared.effect.Effect.{Effect}
use Rattle.decoder.specs.declared.effect.Effect.TheVariants as effect
use Rattle.decoder.specs.declared.heard.Heard.{Heard}
use Rattle.decoder.specs.declared.records.Mobile.{Mobile}
use Rattle.decoder.specs.declared.records.Accessory.{Accessory}
use Rattle.decoder.specs.declared.role.Role.{Role}
use Rattle.decoder.specs.declared.view.MobileView.{MobileView}
use Rattle.decoder.specs.declared.view.AccessoryView.{AccessoryView}
use Rattle.decoder.specs.declared.view.NamedVariable.{NamedVariable}
use Rattle.decoder.specs.Accesses.{access_of, mobile_offset, accessory_offset, reply_variable, barred}
use Rattle.decoder.specs.Fresh.{Basic, Extended, fresh_mobile, fresh_accessory}
use Rattle.decoder.specs.Hearing.{own_address, mobile_role}
use Rattle.decoder.specs.Mobiles.{mobile_after, mobile_noted, mobile_plan}
use Rattle.decoder.specs.Accessories.{AccessoryKind, basic_kind, extended_kind, accessory_after, accessory_plan}

-- a record of one kind, and the variables 1 to 1024 in their order
pub record Own (X : Type 0) : Type 0 where
  pub rec : X
  pub vars : List ℕ

abbrev pub own : {X : Type 0} → X → List ℕ → Own X
own x w = record { rec = x; vars = w }

-- the variable of a number
abbrev pub variable : List ℕ → ℕ → ℕ
variable vars n = slice_index vars (n - 1)

-- the variable that an access names, if it names one, where so many stand before the kind's own
abbrev pub named : ℕ → List ℕ → Option Access → Option NamedVariable
named offset vars None = None
named offset vars (Some a) =
    Some (record { value = variable vars a.cv.number; read_only = barred offset a.cv.number })

-- what decides among the variables
abbrev pub mobile_view : List ℕ → Option Access → MobileView
mobile_view vars a = record {
  own = own_address (variable vars 29) (variable vars 1) (variable vars 17) (variable vars 18);
  consist = variable vars 19;
  config = variable vars (reply_variable mobile_offset);
  named = named mobile_offset vars a;
}

abbrev pub accessory_view : List ℕ → Option Access → AccessoryView
accessory_view vars a = record {
  config = variable vars (reply_variable accessory_offset);
  named = named accessory_offset vars a;
}

-- what an effect leaves of the variables
abbrev pub applied : Option Effect → List ℕ → List ℕ
applied None vars = vars
applied (Some (effect.Put cv x)) vars = slice_set vars (cv.number - 1) x
applied (Some effect.HardReset) vars = slice_set (slice_set (slice_set (slice_set vars 18 0) 28 2) 30 16) 31 0

-- a packet, these bytes, as it is heard
abbrev pub as_heard : Role → List ℕ → Instruction → Heard
as_heard r bs i = record { role = r; packet = packed bs; instruction = i }

-- the rules of a kind of decoder
pub record Rules (X : Type 0) : Type 0 where
  -- how many variables stand before the kind's own
  pub offset : ℕ
  -- by which address a packet to the target is heard
  pub hears : Own X → Target → Option Role
  -- what the packet, these bytes, does that asks the instruction and is heard in the role
  pub obeys : Own X → Role → List ℕ → Instruction → Own X
  -- the record as the power comes up
  pub starts : X → X
  -- the record with nothing waiting
  pub unwaits : X → X
  -- the write that waits
  pub waiting : X → Option WaitingWrite

abbrev pub mobile_rules : Rules Mobile
mobile_rules = record {
  offset = mobile_offset;
  hears = λ o t. mobile_role (mobile_view o.vars None) t;
  obeys = λ o r bs i. own (record { state = mobile_after o.rec.state (mobile_view o.vars (access_of i)) (as_heard r bs i) }) (applied (mobile_plan o.rec.state (mobile_view o.vars (access_of i)) (as_heard r bs i)) o.vars);
  starts = λ x. fresh_mobile;
  unwaits = λ x. record { state = mobile_noted x.state None x.state.reply };
  waiting = λ x. x.state.waiting;
}

abbrev pub accessory_rules : {S : Type 0} → AccessoryKind S → Rules (Accessory S)
accessory_rules k = record {
  offset = accessory_offset;
  hears = λ o t. k.role o.rec.address t;
  obeys = λ o r bs i. own (record { address = o.rec.address; state = accessory_after k o.rec.state (accessory_view o.vars (access_of i)) (as_heard r bs i) }) (applied (accessory_plan k o.rec.state (accessory_view o.vars (access_of i)) (as_heard r bs i)) o.vars);
  starts = λ x. fresh_accessory k x.address;
  unwaits = λ x. record { address = x.address; state = record { shown = x.state.shown; waiting = None; reply = x.state.reply } };
  waiting = λ x. x.state.waiting;
}

abbrev pub basic_rules : Rules Basic
basic_rules = accessory_rules basic_kind

abbrev pub extended_rules : Rules Extended
extended_rules = accessory_rules extended_kind

-- what happens to one decoder
pub data Event : Type 0 where
  -- a packet comes, these bytes
  heard : List ℕ → Event
  -- the power comes up
  powered : Event
  -- a variable is set to a byte
  setting : CvNumber → ℕ → Event

module _ {X : Type 0} (m : Rules X) where
  -- the role in which a packet is heard, and what it asks; none where it is refused or not heard
  abbrev pub in_role : Option Role → Instruction → Option (Role × Instruction)
  in_role None i = None
  in_role (Some r) i = Some (r, i)

  abbrev pub hearing : Own X → Told → Option (Role × Instruction)
  hearing o (Err e) = None
  hearing o (Ok p) = in_role (m.hears o p.target) p.instruction

  abbrev pub obeyed : Own X → List ℕ → Option (Role × Instruction) → Own X
  obeyed o bs None = o
  obeyed o bs (Some h) = m.obeys o h.0 bs h.1

  abbrev pub live : Own X → Event → Own X
  live o (heard bs) = obeyed o bs (hearing o (packet_read bs))
  live o powered = own (m.starts o.rec) o.vars
  live o (setting cv x) = own (m.unwaits o.rec) (slice_set o.vars (cv.number - 1) x)

  abbrev pub life : Own X → List Event → Own X
  life o [] = o
  life o (e ∷ es) = life (live o e) es
