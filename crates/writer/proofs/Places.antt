-- What two copies and a write leave in a place that was split behind each copy. Assumes nothing.
use Rattle.std.proofs.Common.{◌≡◌, ℕ, ◌+◌, ◌<◌, List, [], ◌∷◌, ◌++◌, length, drop, set, refl, ap, ◌∙◌}
use Rattle.std.proofs.lemmas.List.{append_assoc, drop-drop, drop_more}

pub packet_put :
    (hs bs behind rest place : List ℕ) (x : ℕ)
    → behind ≡ drop (length hs) place
    → rest ≡ drop (length bs) behind
    → length hs + length bs < length place
    → hs ++ (bs ++ set rest 0 x) ≡ hs ++ bs ++ (x ∷ []) ++ drop (length hs + length bs + 1) place
packet_put hs bs behind rest place x p q l =
    let e = q ∙ ap (drop (length bs)) p ∙ drop-drop (length bs) (length hs) place ∙ drop_more place (length hs + length bs) 0 l in
    rw e (simp append_assoc refl)
