use Rattle.std.proofs.Common.{rules}
use Rattle.reader.proofs.mobile.by_first.Goals as goal

pub returns-in-63 : goal.returns-in-63
returns-in-63 c = rw c.in-63.is (c.with_one.ensures _ (λ b r p. search rules))

pub returns-in-221 : goal.returns-in-221
returns-in-221 c = rw c.in-221.is (c.with_one-in-221.ensures _ (λ b r p. search rules))

pub returns-in-242 : goal.returns-in-242
returns-in-242 c = rw c.in-242.is (c.with_one-in-242.ensures _ (λ b r p. search rules))

pub returns-in-243 : goal.returns-in-243
returns-in-243 c = rw c.in-243.is (c.with_one-in-243.ensures _ (λ b r p. search rules))
