-- The groups of functions, by how many functions they have. Assumes nothing.
use Rattle.std.proofs.Common.{◌≡◌, ℕ, Bool, List, refl, arith}
use Rattle.packet.specs.declared.instruction.FunctionGroup.{FunctionGroup}
use Rattle.packet.specs.declared.instruction.FunctionGroup.TheVariants.{F0ToF4, F5ToF8, F9ToF12}
use Rattle.packet.specs.Groups.{lowest_of, width_of}
use Rattle.state.specs.Groups.{low_bits, pasted, switched}

-- a group of eight is switched by all bits of the byte
pub eight : (fs : List Bool) (g : FunctionGroup) (bits : ℕ) (light : Bool) → width_of g ≡ 8 → pasted fs (lowest_of g) (low_bits 8 bits) ≡ switched fs g bits light
eight fs F0ToF4 bits light h = absurd (omega (arith, h))
eight fs F5ToF8 bits light h = absurd (omega (arith, h))
eight fs F9ToF12 bits light h = absurd (omega (arith, h))
eight fs g bits light h = refl
