use Rattle.std.proofs.Common.{◌≡◌, ℕ, Some, refl, ap₂, rules}
use Rattle.packet.specs.declared.cv.CvNumber.{CvNumber}
use Rattle.packet.proofs.Cvs.{cv_is}
use Rattle.decoder.specs.declared.effect.Effect.TheVariants.{Put}
use Rattle.decoder.specs.Mobiles.{consist_address, configuration, acceleration_adjustment, deceleration_adjustment}
use Rattle.decoder.proofs.mobile.effect.Goals as goal

-- a variable is known by its number
put_as : (cv named : CvNumber) {x y : ℕ} → cv.number ≡ named.number → x ≡ y → Some (Put cv x) ≡ Some (Put named y)
put_as cv named e f = ap₂ (λ cv x. Some (Put cv x)) (cv_is cv named e) f

pub returns-in-AdvancedAddressing : goal.returns-in-AdvancedAddressing
returns-in-AdvancedAddressing c = rw c.in-AdvancedAddressing.is (put_as _ configuration refl (search rules))

pub returns-after-reversed : goal.returns-after-reversed
returns-after-reversed c = rw c.in-Consist.is (put_as _ consist_address refl (search rules))

pub returns-in-AccelerationAdjustment : goal.returns-in-AccelerationAdjustment
returns-in-AccelerationAdjustment c = rw c.in-AccelerationAdjustment.is (put_as _ acceleration_adjustment refl refl)

pub returns-in-DecelerationAdjustment : goal.returns-in-DecelerationAdjustment
returns-in-DecelerationAdjustment c = rw c.in-DecelerationAdjustment.is (put_as _ deceleration_adjustment refl refl)
