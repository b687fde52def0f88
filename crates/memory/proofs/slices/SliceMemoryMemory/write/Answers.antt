use Rattle.std.proofs.Common.{◌∷◌, [], ◌/◌, ◌%◌, slice_set, ap, ◌∙◌}
use Rattle.std.proofs.lemmas.Option.{get_or_from_slice_get}
use Rattle.memory.proofs.PlaceCells.{places_set}
use Rattle.memory.proofs.slices.SliceMemoryMemory.write.Goals as goal

-- the place that is changed is the one that was looked up
pub returns-clause-after : goal.returns-clause-after
returns-clause-after g c =
    let places = c.args.self.now.places.now in
    let found = c.in_ok-place.ensures.ok in
    let same = get_or_from_slice_get places (c.args.cell / g.row.N) c.in_ok-place.field-0 c.index-places-cell.result found in
    let put = c.put.ensures ∙ ap (λ p. slice_set (g.P.Place.cells (p ∷ [])) (c.args.cell % g.row.N) c.args.byte) same in
    places_set g.met.P.Place.laws places c.args.cell c.in_ok-place.field-0 found c.put.new.self c.args.byte put
