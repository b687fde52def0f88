-- Which functions a group switches by its bits from bit 0 on.
use Rattle.std.specs.Prelude.{◌≡◌, ℕ, ◌+◌}
use Rattle.packet.specs.declared.instruction.FunctionGroup.{FunctionGroup}
use Rattle.packet.specs.declared.instruction.FunctionGroup.TheVariants as group
use Rattle.packet.specs.Groups.{lowest_of, width_of}

-- those from the first to the last
abbrev pub Spans : FunctionGroup → ℕ → ℕ → Type 0
Spans g first last = (lowest_of g ≡ first) × (lowest_of g + width_of g ≡ last + 1)

-- those that it is called after; FL, which is F0, stands apart
pub record GroupsAsCalled : Type 0 where
  pub one : Spans group.F0ToF4 1 4
  pub two_low : Spans group.F5ToF8 5 8
  pub two_high : Spans group.F9ToF12 9 12
  pub f13 : Spans group.F13ToF20 13 20
  pub f21 : Spans group.F21ToF28 21 28
  pub f29 : Spans group.F29ToF36 29 36
  pub f37 : Spans group.F37ToF44 37 44
  pub f45 : Spans group.F45ToF52 45 52
  pub f53 : Spans group.F53ToF60 53 60
  pub f61 : Spans group.F61ToF68 61 68
