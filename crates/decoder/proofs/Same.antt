-- A packet that waits is known by its bytes. Assumes nothing.
use Rattle.std.proofs.Common.{◌≡◌, ℕ, ◌≤◌, min, true, eqb, List, length, take, drop, replicate, ◌-◌, sym, refl, ap, ◌∙◌, ap₂, arith}
use Rattle.std.specs.Str.{bytes_eq}
use Rattle.std.proofs.lemmas.Slice.Eq.{bytes_eq-Decides}
use Rattle.std.proofs.lemmas.List.{take_all, take_at, drop_at, drop-replicate}
use Rattle.std.proofs.lemmas.Bool.{eqb-true, eq-eqb, and_parts, and_from}
use Rattle.std.proofs.lemmas.Bool.Decides.{same_from_decides}
use Rattle.state.specs.declared.waiting.WaitingWrite.{WaitingWrite}
use Rattle.state.specs.Packing.{packed, same_waiting}
use Rattle.decoder.specs.LongForms.{PacketsWait}

same_waiting_lem : (p q : WaitingWrite) → same_waiting p q ≡ true → p ≡ q
same_waiting_lem p q e =
    let h = and_parts (eqb p.length q.length) (bytes_eq p.bytes q.bytes) e in
    let mk : List ℕ → ℕ → WaitingWrite = λ xs n. record { bytes = xs; length = n } in
    ap₂ mk ((bytes_eq-Decides p.bytes q.bytes).0 h.1) (eqb-true p.length q.length h.0)

waiting_same : (p : WaitingWrite) → same_waiting p p ≡ true
waiting_same p = and_from _ _ (eq-eqb p.length p.length refl) ((bytes_eq-Decides p.bytes p.bytes).1 refl)

-- the bytes of a packet come back from where it waits
unpacked : (bs : List ℕ) → length bs ≤ 6 → take (packed bs).length (packed bs).bytes ≡ bs
unpacked bs l =
    let m : min (length bs) 6 ≡ length bs = omega arith in
    rw m (take_at (take (length bs) bs) _ (length bs) (ap length (take_all (length bs) bs (omega arith))) ∙ take_all (length bs) bs (omega arith))

pub packed_same : (cs bs : List ℕ) → length cs ≤ 6 → length bs ≤ 6 → same_waiting (packed cs) (packed bs) ≡ bytes_eq cs bs
packed_same cs bs l m =
    same_from_decides {P = cs ≡ bs} (same_waiting (packed cs) (packed bs)) (bytes_eq cs bs) (
      (λ e. sym (unpacked cs l) ∙ ap (λ (w : WaitingWrite). take w.length w.bytes) (same_waiting_lem (packed cs) (packed bs) e) ∙ unpacked bs m),
      (λ e. ap (λ x. same_waiting (packed cs) (packed x)) (sym e) ∙ waiting_same (packed cs)),
    )
    (bytes_eq-Decides cs bs)

zeros_after : (bs : List ℕ) → length bs ≤ 6 → drop (length bs) (packed bs).bytes ≡ replicate (6 - length bs) 0
zeros_after bs l =
    let m : min (length bs) 6 ≡ length bs = omega arith in
    rw m (drop_at (take (length bs) bs) _ (length bs) (ap length (take_all (length bs) bs (omega arith))) ∙ drop-replicate (length bs) 6 0)

pub packets_wait : PacketsWait
packets_wait = record {
  bytes = unpacked;
  zeros = zeros_after;
  itself = λ bs. waiting_same (packed bs);
  no_other = λ cs bs l m e. (bytes_eq-Decides cs bs).0 (sym (packed_same cs bs l m) ∙ e);
}
