-- Who hears a packet, and by which address.
use Rattle.std.specs.Prelude.{ℕ, ◌+◌, ◌-◌, ◌*◌, ◌%◌, Bool, false, cond, not, ◌&&◌, Some, None, Option, ◌==◌, nat_le}
use Rattle.packet.specs.declared.target.Target.{Target}
use Rattle.packet.specs.declared.target.Target.TheVariants.{Idle, Broadcast, Short, Long, Basic, Extended}
use Rattle.state.specs.Bits.{bit_of}
use Rattle.decoder.specs.declared.role.Address.{Address}
use Rattle.decoder.specs.declared.role.Address.TheVariants as address
use Rattle.decoder.specs.declared.role.Role.{Role}
use Rattle.decoder.specs.declared.role.Role.TheVariants as role
use Rattle.decoder.specs.declared.view.MobileView.{MobileView}

-- the own address by variables 29, 1, 17 and 18: long where bit 5 of the first is set
abbrev pub own_address : ℕ → ℕ → ℕ → ℕ → Option Address
own_address config short high low =
    cond (bit_of config 5)
    (cond (nat_le 192 high && nat_le high 231) (Some (address.Long (256 * (high - 192) + low))) None)
    (cond (nat_le 1 short && nat_le short 127) (Some (address.Short short)) None)

abbrev pub is_short : ℕ → Option Address → Bool
is_short a None = false
is_short a (Some (address.Short b)) = a == b
is_short a (Some (address.Long b)) = false

abbrev pub is_long : ℕ → Option Address → Bool
is_long a None = false
is_long a (Some (address.Short b)) = false
is_long a (Some (address.Long b)) = a == b

-- bits 0 to 6 of variable 19 are a short address, unless they are zero
abbrev pub is_consist : ℕ → ℕ → Bool
is_consist a consist = not (consist % 128 == 0) && a == consist % 128

-- the address of its consist, if it is in one
abbrev pub consist_of : MobileView → Option ℕ
consist_of v = cond (v.consist % 128 == 0) None (Some (v.consist % 128))

-- broadcast counts before own, own before consist
abbrev pub mobile_role : MobileView → Target → Option Role
mobile_role v Idle = None
mobile_role v Broadcast = Some role.Everyone
mobile_role v (Short a) = cond (is_short a v.own) (Some role.Own) (cond (is_consist a v.consist) (Some role.Consist) None)
mobile_role v (Long a) = cond (is_long a v.own) (Some role.Own) None
mobile_role v (Basic a) = None
mobile_role v (Extended a) = None

-- a consist address stands that is not the own address
abbrev pub in_consist : MobileView → Bool
in_consist v = not (v.consist % 128 == 0) && not (is_short (v.consist % 128) v.own)

-- an accessory decoder hears its own address and its kind's broadcast
abbrev pub by_accessory : ℕ → ℕ → ℕ → Option Role
by_accessory own all a = cond (a == own) (Some role.Own) (cond (a == all) (Some role.Everyone) None)

abbrev pub basic_role : ℕ → Target → Option Role
basic_role own Idle = None
basic_role own Broadcast = None
basic_role own (Short a) = None
basic_role own (Long a) = None
basic_role own (Basic a) = by_accessory own 511 a
basic_role own (Extended a) = None

abbrev pub extended_role : ℕ → Target → Option Role
extended_role own Idle = None
extended_role own Broadcast = None
extended_role own (Short a) = None
extended_role own (Long a) = None
extended_role own (Basic a) = None
extended_role own (Extended a) = by_accessory own 2047 a
