use Rattle.std.proofs.Common.{◌≡◌, sym, ◌∙◌, rules}
use Rattle.format.specs.Writing.{encoded, answer}
use Rattle.format.proofs.Nowhere.{placeless, accepted}
use Rattle.format.proofs.Placed.{placed_reads}
use Rattle.format.proofs.Unwritten.{unwritten}
use Rattle.writer.proofs.writing.write.Goals as goal
use Rattle.writer.proofs.writing.write.Goals.{After-map_err}

answered :
    (c : After-map_err)
    → c.map_err.result
    ≡ placeless (answer (encoded c.args.packet.target c.args.packet.instruction) c.args.place.now)
answered c = search rules

pub returns-clause-answered : goal.returns-clause-answered
returns-clause-answered c = answered (goal.at.returns-clause-answered c).After-map_err

pub returns-clause-reads_back : goal.returns-clause-reads_back
returns-clause-reads_back c n e =
    let t = c.args.packet.target in
    let i = c.args.packet.instruction in
    let place = c.args.place.now in
    let is = answered (goal.at.returns-clause-reads_back c).After-map_err in
    let said = accepted (answer (encoded t i) place) n (sym is ∙ e) in
    placed_reads t i place _ n c.encode.ensures.placed said

pub returns-clause-refused : goal.returns-clause-refused
returns-clause-refused c =
    let is = answered (goal.at.returns-clause-refused c).After-map_err in
    unwritten c.args.packet.target c.args.packet.instruction c.args.place.now _ is
