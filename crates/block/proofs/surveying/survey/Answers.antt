use Rattle.std.proofs.Common.{◌≡◌, ℕ, ◌+◌, ◌≤◌, List, length, Some, None, Ok, Result, refl, sym, ap, ◌∙◌, arith, rules}
use Rattle.fault.specs.declared.fault.Fault.{Fault}
use Rattle.block.specs.declared.records.Carried.{Carried}
use Rattle.block.specs.declared.summary.Survey.{Survey}
use Rattle.block.specs.declared.walk.Walk.{Walk}
use Rattle.block.specs.Contents.{thing_in}
use Rattle.block.specs.Reading.{reading_from}
use Rattle.block.specs.Walking.{Advances}
use Rattle.block.proofs.Steps.{passing}
use Rattle.block.proofs.Sums.{Going, added, added_none}
use Rattle.block.proofs.Tilings.{survey_tells}
use Rattle.block.proofs.Walkings.{turn_none, turn_fault, turn}
use Rattle.block.proofs.surveying.survey.Goals as goal

-- the walk s, where the survey is v, goes on to t behind a record that u counts too
kept :
    {b : List ℕ} {v u : Survey} {s t : Walk} {x : Result Carried Fault} (d : Carried)
    → Going b s v
    → x ≡ Ok d
    → Advances s (Some x) t
    → added (length b) u (reading_from b d.next) ≡ added (length b) v (passing b v.end (thing_in d.«record») d.next)
    → (u.end ≡ d.next) × (u.packets + u.power_ups ≤ v.packets + v.power_ups + 1) × (u.fault ≡ v.fault)
    → Going b t u
kept {b} {v} {u} {s} {t} {x} d i is a more h =
    let k = turn b v.end s t i.over i.at x d is a in
    record {
      sums = ap (λ o. added (length b) u (reading_from b o)) h.0 ∙ more ∙ sym (ap (added (length b) v) k.reads) ∙ i.sums;
      over = k.over;
      at = k.at ∙ sym h.0;
      inside = omega (arith, k.inside, h.0);
      counted = omega (arith, k.past, h.0, h.1, i.counted);
      sound = h.2 ∙ i.sound;
    }

pub loop-item-preserved-in-PowerUp : goal.loop-item-preserved-in-PowerUp
loop-item-preserved-in-PowerUp c = kept c.in-Ok.carried c.loop-item.invariant c.in-Ok.is c.in-Some.ensures.steps (search rules) (refl, omega arith, refl)

pub loop-item-preserved : goal.loop-item-preserved
loop-item-preserved c = kept c.in-Ok.carried c.loop-item.invariant c.in-Ok.is c.in-Some.ensures.steps (search rules) (refl, omega arith, refl)

pub returns-in-None : goal.returns-in-None
returns-in-None c =
    let b = c.args.block.now in
    let v = c.loop-item.survey in
    let i = c.loop-item.invariant in
    let k = turn_none b v.end _ _ i.over i.at c.in-None.ensures.steps in
    let end : v.end ≡ length b = omega (arith, k.1) in
    survey_tells b v c.in_ok-item-items.ensures.begins.0 (added_none v (length b) None end i.sound ∙ sym (ap (added (length b) v) k.0) ∙ i.sums)

pub returns-in-Fill : goal.returns-in-Fill
returns-in-Fill c =
    let b = c.args.block.now in
    let v = c.loop-item.survey in
    let i = c.loop-item.invariant in
    let d = c.in-Ok.carried in
    let k = turn b v.end _ _ i.over i.at _ d c.in-Ok.is c.in-Some.ensures.steps in
    let on = k.reads ∙ ap (λ r. passing b v.end (thing_in r) d.next) c.in-Fill.is in
    survey_tells b v c.in_ok-item-items.ensures.begins.0 (added_none v v.end None refl i.sound ∙ sym (ap (added (length b) v) on) ∙ i.sums)

pub returns-in-Err : goal.returns-in-Err
returns-in-Err c =
    let b = c.args.block.now in
    let v = c.loop-item.survey in
    let f = Some c.in-Err.fault in
    let i = c.loop-item.invariant in
    let on = turn_fault b v.end _ _ i.over i.at _ c.in-Err.fault c.in-Err.is c.in-Some.ensures.steps in
    survey_tells b _ c.in_ok-item-items.ensures.begins.0 (added_none (record v { fault = f }) v.end f refl refl ∙ sym (ap (added (length b) v) on) ∙ i.sums)
