use Rattle.std.proofs.Common.{◌-◌, set, refl, ap, ◌∙◌, arith}
use Rattle.bank.proofs.Windowed.{wrote_as}
use Rattle.bank.proofs.window.Window.put.Goals as goal

-- tried: `using(wrote_as)`; the search gives up at a limit
pub returns : goal.returns
returns g c =
    let self = c.args.self.now in
    let cells = g.M.Memory.cells self.memory.now in
    record {
      slot = refl;
      lender = refl;
      cells = wrote_as cells self.slot (c.args.cv.number - 1) (omega arith) c.args.value (c.write.ensures.after ∙ ap (λ k. set cells k c.args.value) c.cell-cell.ensures);
      outside = c.write.ensures.outside;
      lenders = c.write.ensures.lenders;
    }
