-- Along a trail the output holds what was sent, frame behind frame, over what the caller lent.
use Prim.Native.Nat.{ℕ, ◌+◌, ◌≤◌}
use mathlib.Core.Path.{◌≡◌, refl, sym, ap, ◌∙◌, subst}
use mathlib.Core.Bool.{Bool, true}
use mathlib.Core.List.{List, [], ◌∷◌, ◌++◌, append-nil, append_assoc}
use native.Mathlib.Omega.{arith}
use lib.ListN.{length, take, drop, length-append}
use lib.Seq.{drop-length, take_at}
use Rattle.bytes_base.specs.Choice.{pick}
use Rattle.state.specs.declared.Bearer.{Bearer}
use Rattle.script_rules.specs.World.{Told, World, on_held}
use Rattle.script_rules.specs.Send.{send}
use Rattle.script_rules.specs.Waiting.{take_step}
use Rattle.script_rules.specs.Nearly.{Linked}
use Rattle.script_rules.specs.Sound.{Sound}
use Rattle.script_rules.proofs.AdvanceLaws.{goes_on_lem}
use Rattle.thm_trail.specs.Trail.{Pass, final}
use Rattle.thm_trail.proofs.Hops.{Hop, ended, began, meets, parts, still, acted, Hops, none, more}
use Rattle.thm_accounting.proofs.Books.{sound-hop}
use Rattle.thm_wire.specs.Wire.{Sent, mtu_of, as_sent, sent_in, sent_along, wire, Within}
use Rattle.thm_wire.proofs.Sends.{Quiet, One, Sends, quiet, one, Mtu}
use Rattle.thm_wire.proofs.Starts.{sends-start}
use Rattle.thm_wire.proofs.Channels.{sends-channel}
use Rattle.thm_wire.proofs.Bytes.{AllKnown, sent-frame, wire-one, within-one, known-one, sent-bytes, sent-all, sent-out, sent-written}

-- ---- what a hop sends, and that there is room for it

pub record Sent-in (w v : World) : Type 0 where
  pub sends : Sends (mtu_of w) w.told v.told
  pub room : w.told.sent.frames + 1 ≤ 65

abbrev mtu-is : Bearer → ℕ
mtu-is b = pick b.present b.link.mtu 0

mtu-of : (b : Bearer) → Linked b → b.present ≡ true → Mtu b.link.mtu
mtu-of b l e = record { low = l.mtu_low e; high = l.mtu_high e }

-- where there is a link
mtu-there : (b : Bearer) → Linked b → b.present ≡ true → Mtu (mtu-is b)
mtu-there b l e = subst (λ (x : Bool). Mtu (pick x b.link.mtu 0)) (sym e) (mtu-of b l e)

pub data Step-out (w v : World) : Type 0 where
  silent : Quiet w.told v.told → Step-out w v
  sent : Sent-in w v → Step-out w v

hop-out : {w : World} {p : Pass} → Hop w p → Sound 65 w → Step-out w p.to
unfolding take_step
hop-out (ended w at st f) s = silent (record { frames = refl; bytes = refl; out = refl })
hop-out (began w at t g) s =
    sent
    (record {
      sends = sends-start (on_held w (take_step w.held)) at (mtu-of w.held.state.bearer s.nearly.linked);
      room = omega (arith, s.budget, (goes_on_lem w.held.state g).some);
    })
hop-out (meets w handle few) s = silent (record { frames = refl; bytes = refl; out = refl })
hop-out (parts w) s = silent (record { frames = refl; bytes = refl; out = refl })
hop-out (still w g q) s = silent (record { frames = refl; bytes = refl; out = refl })
hop-out (acted w at channel n o q) s =
    sent (record { sends = sends-channel (mtu_of w) (mtu-there w.held.state.bearer s.nearly.linked o.present) w at channel n; room = omega (arith, o.unsent) })

-- ---- the output holds what was sent

-- in a call to which o was lent
pub record Wired (o : List ℕ) (ps : List Sent) (w : World) : Type 0 where
  pub sound : Sound 65 w
  pub frames : w.told.sent.frames ≡ length ps
  pub bytes : w.told.sent.bytes ≡ length (wire ps)
  pub out : w.told.out ≡ wire ps ++ drop w.told.sent.bytes o
  pub within : Within ps
  pub known : AllKnown ps

module _ (o : List ℕ) (ps : List Sent) (w v : World) (i : Wired o ps w) (s : Sound 65 v) where
  -- nothing is read where nothing was sent
  sent-none : Quiet w.told v.told → sent_in w v ≡ []
  sent-none q =
      ap (as_sent (mtu_of w))
      (ap (λ (k : ℕ). drop w.told.sent.bytes (take k v.told.out)) (q.bytes ∙ i.bytes)
      ∙ ap (λ (l : List ℕ). drop w.told.sent.bytes (take (length (wire ps)) l)) (q.out ∙ i.out)
      ∙ ap (drop w.told.sent.bytes) (take_at (wire ps) (drop w.told.sent.bytes o) (length (wire ps)) refl)
      ∙ ap (λ (k : ℕ). drop k (wire ps)) i.bytes
      ∙ drop-length (wire ps))

  wired-quiet : Quiet w.told v.told → Wired o (ps ++ sent_in w v) v
  wired-quiet q =
      subst (λ (l : List Sent). Wired o l v) (sym (ap (λ (l : List Sent). ps ++ l) (sent-none q) ∙ append-nil ps))
      (record {
        sound = s;
        frames = q.frames ∙ i.frames;
        bytes = q.bytes ∙ i.bytes;
        out = q.out ∙ i.out ∙ ap (λ (k : ℕ). wire ps ++ drop k o) (sym q.bytes);
        within = i.within;
        known = i.known;
      })

  module _ (r : w.told.sent.frames + 1 ≤ 65) (q : One (mtu_of w) w.told v.told) where
    abbrev x : Sent
    x = record { frame = record { channel = q.channel; payload = q.payload }; mtu = mtu_of w }

    abbrev u : Told
    u = send w.told q.channel q.payload

    small : length q.payload ≤ 65535
    small = omega (arith, q.short)

    fits : w.told.sent.bytes + (4 + length q.payload) ≤ length w.told.out
    fits = omega (arith, q.short, i.sound.ready.bytes, i.sound.ready.out)

    is-bytes : v.told.sent.bytes ≡ w.told.sent.bytes + (4 + length q.payload)
    is-bytes = q.sent.bytes ∙ sent-bytes w.told q.channel q.payload (wire ps) o small fits i.bytes i.out

    sent-one : sent_in w v ≡ x ∷ []
    sent-one =
        ap (as_sent (mtu_of w))
        (ap (λ (k : ℕ). drop w.told.sent.bytes (take k v.told.out)) q.sent.bytes
        ∙ ap (λ (l : List ℕ). drop w.told.sent.bytes (take u.sent.bytes l)) q.sent.out
        ∙ sent-written w.told q.channel q.payload (wire ps) o small fits i.bytes i.out)
        ∙ sent-frame q.channel q.payload (mtu_of w) q.known small

    frames-one : u.sent.frames ≡ w.told.sent.frames + 1
    unfolding send
    frames-one = refl

    wired-one : Wired o (ps ++ sent_in w v) v
    wired-one =
        subst (λ (l : List Sent). Wired o l v) (sym (ap (λ (l : List Sent). ps ++ l) sent-one))
        (record {
          sound = s;
          frames = omega (arith, q.sent.frames, frames-one, i.frames, length-append ps (x ∷ []));
          bytes = is-bytes ∙ sym (sent-all w.told q.channel q.payload (wire ps) o small fits i.bytes i.out) ∙ ap length (sym (wire-one ps x));
          out = q.sent.out
              ∙ sent-out w.told q.channel q.payload (wire ps) o small fits i.bytes i.out
              ∙ ap (λ (l : List ℕ). l ++ drop (w.told.sent.bytes + (4 + length q.payload)) o) (sym (wire-one ps x))
              ∙ ap (λ (k : ℕ). wire (ps ++ (x ∷ [])) ++ drop k o) (sym is-bytes);
          within = within-one ps x i.within (q.within, tt);
          known = known-one ps x i.known (record { channel = q.known; size = small });
        })

  wired-sends : w.told.sent.frames + 1 ≤ 65 → Sends (mtu_of w) w.told v.told → Wired o (ps ++ sent_in w v) v
  wired-sends r (quiet q) = wired-quiet q
  wired-sends r (one q) = wired-one r q

  wired-step : Step-out w v → Wired o (ps ++ sent_in w v) v
  wired-step (silent q) = wired-quiet q
  wired-step (sent q) = wired-sends q.room q.sends

pub wired-hops : (o : List ℕ) (ps : List Sent) {w : World} {vs : List Pass} → Hops w vs → Wired o ps w → Wired o (ps ++ sent_along w vs) (final w vs)
wired-hops o ps (none {w}) i = subst (λ (l : List Sent). Wired o l w) (sym (append-nil ps)) i
wired-hops o ps (more {w} {p} {ps = vs} q qs) i =
    let v : World = p.to in
    subst (λ (l : List Sent). Wired o l (final v vs)) (append_assoc ps (sent_in w v) (sent_along v vs))
    (wired-hops o (ps ++ sent_in w v) qs (wired-step o ps w v i (sound-hop q i.sound) (hop-out q i.sound)))
