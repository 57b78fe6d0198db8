-- What each return and each loop asks, over plain variables.
use Rattle.std.specs.Prelude.{Some, None}
use Prim.Native.Nat.{ℕ, ◌+◌, ◌/◌, ◌%◌, ◌<◌, ◌≤◌}
use mathlib.Core.Path.{◌≡◌, refl, sym, ap, ap₂, ◌∙◌}
use mathlib.Core.Bool.{Bool, true, false}
use mathlib.Core.List.{List, [], ◌∷◌, ◌++◌}
use native.Mathlib.Numerals.{add-one}
use native.Mathlib.Omega.{arith}
use lib.ListN.{length, take, drop, get_or, set, length-set, length-append}
use lib.Seq.{get_or-set_same, get_or-set_other, take-suc, take-suc-set, length-take-le}
use lib.Dec.{eqb}
use Rattle.lists.proofs.TableLaws.{onto-onto, set-onto, take-onto, length-onto, first-pass, first-hit, first-end}
use Rattle.lists.specs.Queue.{onto}
use Rattle.gatt_services.specs.Service.{service_with, zero-service}
use Rattle.gatt_services.specs.declared.Service.{Service}
use Rattle.uuid_value.specs.Value.{num}
use Rattle.uuid_value.specs.declared.Uuid.{Uuid}
use Rattle.words.specs.Rows.{Same}
use Rattle.words.specs.Tables.{Tables, word, tables, with_services, services_in}
use Rattle.words.specs.Words.{service_of}
use Rattle.words.proofs.RowLaws.{steps-same, results_same, characteristics-same, notifications-same, who-same, heard-same, keys-same, length-services, service-at}
use Rattle.words.proofs.TableLaws.{table-set}

-- ---- one service

pub service-read : (w : List ℕ) (i : ℕ) → i < 32
    → record { start = word w 448 i % 65536; end = word w 448 i / 65536 % 65536; uuid = record { low = word w 384 i; high = word w 416 i } }
    ≡ get_or (services_in w) i zero-service
unfolding service_of
service-read w i h = sym (service-at w i h)

-- three words put: the place has them, and every other word is as it was
module _ (w : List ℕ) (i low high x : ℕ) (long : length w ≡ 1152) (b : i < 32) where
  abbrev with : List ℕ
  with = set (set (set w (384 + i) low) (416 + i) high) (448 + i) x

  other : (p : ℕ) → (p ≡ 384 + i → ⊥) → (p ≡ 416 + i → ⊥) → (p ≡ 448 + i → ⊥) → get_or with p 0 ≡ get_or w p 0
  other p n₀ n₁ n₂ =
      get_or-set_other (set (set w (384 + i) low) (416 + i) high) (448 + i) p x 0 n₂
      ∙ get_or-set_other (set w (384 + i) low) (416 + i) p high 0 n₁
      ∙ get_or-set_other w (384 + i) p low 0 n₀

  below : (lo hi : ℕ) → hi ≤ 384 → Same lo hi w with
  below lo hi h p a z = other p (λ e. omega arith) (λ e. omega arith) (λ e. omega arith)

  above : (lo hi : ℕ) → 480 ≤ lo → Same lo hi w with
  above lo hi h p a z = other p (λ e. omega arith) (λ e. omega arith) (λ e. omega arith)

  there : service_of (word with 384 i) (word with 416 i) (word with 448 i) ≡ service_of low high x
  there =
      let w₁ : List ℕ = set w (384 + i) low in
      let w₂ : List ℕ = set w₁ (416 + i) high in
      let l₁ : length w₁ ≡ 1152 = length-set w (384 + i) low ∙ long in
      let l₂ : length w₂ ≡ 1152 = length-set w₁ (416 + i) high ∙ l₁ in
      let e₀ : get_or with (384 + i) 0 ≡ low =
      get_or-set_other w₂ (448 + i) (384 + i) x 0 (λ e. omega arith)
      ∙ get_or-set_other w₁ (416 + i) (384 + i) high 0 (λ e. omega arith)
      ∙ get_or-set_same w (384 + i) low 0 (omega arith) in
      let e₁ : get_or with (416 + i) 0 ≡ high =
      get_or-set_other w₂ (448 + i) (416 + i) x 0 (λ e. omega arith) ∙ get_or-set_same w₁ (416 + i) high 0 (omega arith) in
      let e₂ : get_or with (448 + i) 0 ≡ x = get_or-set_same w₂ (448 + i) x 0 (omega arith) in
      rw (e₀, e₁, e₂)

  elsewhere : (k : ℕ) → k < 32 → (k ≡ i → ⊥)
      → service_of (word with 384 k) (word with 416 k) (word with 448 k) ≡ service_of (word w 384 k) (word w 416 k) (word w 448 k)
  elsewhere k h n =
      rw (
        other (384 + k) (λ e. n (omega arith)) (λ e. omega arith) (λ e. omega arith),
        other (416 + k) (λ e. omega arith) (λ e. n (omega arith)) (λ e. omega arith),
        other (448 + k) (λ e. omega arith) (λ e. omega arith) (λ e. n (omega arith)),
      )

  services-set : services_in with ≡ set (services_in w) i (service_of low high x)
  unfolding services_in
  services-set =
      table-set 32 (λ k. service_of (word with 384 k) (word with 416 k) (word with 448 k)) (λ k. service_of (word w 384 k) (word w 416 k) (word w 448 k))
      i (service_of low high x) b there elsewhere

  words-put : tables with ≡ with_services (tables w) (set (services_in w) i (service_of low high x))
  words-put =
      rw (
        steps-same w with (below 0 256 (omega arith)),
        results_same w with (below 256 384 (omega arith)) (above 1088 1152 (omega arith)),
        services-set,
        characteristics-same w with (above 480 672 (omega arith)),
        notifications-same w with (above 672 736 (omega arith)) (above 1056 1088 (omega arith)),
        who-same w with (above 736 800 (omega arith)),
        heard-same w with (above 800 928 (omega arith)),
        keys-same w with (above 928 1056 (omega arith)),
      )

pub service-put : (w : List ℕ) (i x : ℕ) (s : Service) → length w ≡ 1152 → i < 32 → (x % 65536 ≡ s.start) × (x / 65536 % 65536 ≡ s.end)
    → tables (set (set (set w (384 + i) s.uuid.low) (416 + i) s.uuid.high) (448 + i) x)
    ≡ with_services (tables w) (set (services_in w) i s)
unfolding service_of
service-put w i x s l b e =
    let q : service_of s.uuid.low s.uuid.high x ≡ s = rw (e.0, e.1) in
    words-put w i s.uuid.low s.uuid.high x l b ∙ ap (λ (y : Service). with_services (tables w) (set (services_in w) i y)) q

-- ---- the search

module _ (w : List ℕ) (n i : ℕ) (uuid : Uuid) (b : n ≤ 32) (e : service_with uuid (take n (services_in w)) ≡ service_with uuid (drop i (take n (services_in w)))) where
  abbrev hits : Service → Bool
  hits s = eqb (num s.uuid) (num uuid)

  room : n ≤ length (services_in w)
  room = omega (arith, length-services w)

  -- the two words are the UUID of the service there
  tested : i < n → (t v : Bool) → t ≡ eqb (num (record { low = word w 384 i; high = word w 416 i })) (num uuid) → t ≡ v
      → hits (get_or (services_in w) i zero-service) ≡ v
  unfolding service_of
  tested h t v q r = ap hits (service-at w i (omega arith)) ∙ sym q ∙ r

  pub find-hit : i < n → (t : Bool) → t ≡ eqb (num (record { low = word w 384 i; high = word w 416 i })) (num uuid) → t ≡ true
      → (s : Service) → s ≡ get_or (services_in w) i zero-service → Some s ≡ service_with uuid (take n (services_in w))
  find-hit h t q r s g = ap Some g ∙ first-hit hits Some None zero-service (services_in w) n i room e h (tested h t true q r)

  pub find-pass : i < n → (t : Bool) → t ≡ eqb (num (record { low = word w 384 i; high = word w 416 i })) (num uuid) → t ≡ false
      → service_with uuid (take n (services_in w)) ≡ service_with uuid (drop (i + 1) (take n (services_in w)))
  find-pass h t q r = first-pass hits Some None zero-service (services_in w) n i room e h (tested h t false q r)

  pub find-end : n ≤ i → None ≡ service_with uuid (take n (services_in w))
  find-end h = first-end hits Some None zero-service (services_in w) n i room e h

-- ---- one more by value, one more into the words

pub copy-on : (w : List ℕ) (kept : List Service) (i : ℕ) (s : Service) → length kept ≡ 32 → i < 32 → s ≡ get_or (services_in w) i zero-service
    → take i kept ≡ take i (services_in w) → take (i + 1) (set kept i s) ≡ take (i + 1) (services_in w)
copy-on w kept i s l h q e =
    rw (add-one i)
    (take-suc-set kept i s (omega arith)
    ∙ ap₂ (λ (a : List Service) (x : Service). a ++ (x ∷ [])) e q
    ∙ sym (take-suc (services_in w) i zero-service (omega (arith, length-services w))))

onto-on : (a kept : List Service) (i : ℕ) → length a ≡ 32 → length kept ≡ 32 → i < 32
    → set (onto a (take i kept)) i (get_or kept i zero-service) ≡ onto a (take (i + 1) kept)
onto-on a kept i la lk h =
    let l : List Service = take i kept in
    let x : Service = get_or kept i zero-service in
    let n : length l ≡ i = length-take-le i kept (omega arith) in
    let o : length (onto a l) ≡ 32 = length-onto a l (omega arith) ∙ la in
    let f : take i (onto a l) ≡ l = ap (λ (k : ℕ). take k (onto a l)) (sym n) ∙ take-onto a l in
    set-onto (onto a l) i x (omega arith)
    ∙ ap (λ (m : List Service). onto (onto a l) (m ++ (x ∷ []))) f
    ∙ onto-onto a l (l ++ (x ∷ [])) (omega (arith, length-append l (x ∷ [])))
    ∙ ap (onto a) (sym (take-suc kept i zero-service (omega arith)) ∙ ap (λ (k : ℕ). take k kept) (sym (add-one i)))

pub write-none : (w : List ℕ) (kept : List Service) → tables w ≡ with_services (tables w) (onto (services_in w) (take 0 kept))
write-none w kept = refl

pub write-on : (w u v : List ℕ) (kept : List Service) (i : ℕ) → length kept ≡ 32 → i < 32
    → tables u ≡ with_services (tables w) (onto (services_in w) (take i kept))
    → tables v ≡ with_services (tables u) (set (services_in u) i (get_or kept i zero-service))
    → tables v ≡ with_services (tables w) (onto (services_in w) (take (i + 1) kept))
write-on w u v kept i l h e g =
    g
    ∙ ap (λ (t : Tables). with_services t (set t.services i (get_or kept i zero-service))) e
    ∙ ap (with_services (tables w)) (onto-on (services_in w) kept i (length-services w) l h)
