-- A bridge by its paths: a-d, b-e, a-c-e and b-c-d in series, joined in parallel in this order.
abbrev pub by_paths : {K : Type 0} → (K → K → K) → (K → K → K) → K → K → K → K → K → K
by_paths series parallel a b c d e =
    parallel (parallel (parallel (series a d) (series b e)) (series (series a c) e))
    (series (series b c) d)
