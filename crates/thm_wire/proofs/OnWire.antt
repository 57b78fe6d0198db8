-- What is told is what is written, over every sequence of calls from a fresh state, with any store.
use Prim.Native.Nat.{ℕ, ◌≤◌}
use mathlib.Core.Path.{◌≡◌, refl, sym, ap, ◌∙◌, subst}
use mathlib.Core.Bool.{Bool, true, false}
use mathlib.Core.List.{List, [], ◌++◌, append-nil}
use native.Mathlib.Omega.{arith}
use lib.ListN.{length, take, drop}
use lib.Seq.{take_at}
use Rattle.bytes_base.specs.Choice.{pick}
use Rattle.state.specs.declared.Options.{Options}
use Rattle.script_rules.specs.World.{Held, World}
use Rattle.script_rules.specs.Outcome.{Outcome, done, unsent}
use Rattle.script_rules.specs.Sound.{Sound}
use Rattle.thm_trail.specs.Calls.{Call, batch, timer, connected, disconnected, advertising, scan_response, fragment, reads, out_of, does, fresh, run, done?}
use Rattle.thm_trail.specs.Trail.{final, begins, goes}
use Rattle.thm_trail.proofs.Ends.{refused_of, does-law}
use Rattle.thm_trail.proofs.Hops.{Sizes}
use Rattle.thm_trail.proofs.Goes.{good}
use Rattle.thm_accounting.proofs.Accounting.{books}
use Rattle.thm_wire.specs.Wire.{Sent, parse, frames_of, wire, Within, sent_along, sent_by, most_frames, OnWire}
use Rattle.thm_wire.proofs.Bytes.{parse-wire}
use Rattle.thm_wire.proofs.Wired.{Wired, wired-hops}

-- ---- where a call begins, nothing was sent

wired-begins : (h : Held) (c : Call) → Sound 65 (begins h c) → Wired (out_of c) [] (begins h c)
wired-begins h (batch out at b values) s = record { sound = s; frames = refl; bytes = refl; out = refl; within = tt; known = tt }
wired-begins h (timer out at) s = record { sound = s; frames = refl; bytes = refl; out = refl; within = tt; known = tt }
wired-begins h (connected out handle at) s = record { sound = s; frames = refl; bytes = refl; out = refl; within = tt; known = tt }
wired-begins h (disconnected at) s = record { sound = s; frames = refl; bytes = refl; out = refl; within = tt; known = tt }
wired-begins h (advertising v) s = record { sound = s; frames = refl; bytes = refl; out = refl; within = tt; known = tt }
wired-begins h (scan_response at a d) s = record { sound = s; frames = refl; bytes = refl; out = refl; within = tt; known = tt }
wired-begins h (fragment out at start bytes) s = record { sound = s; frames = refl; bytes = refl; out = refl; within = tt; known = tt }
wired-begins h (reads r) s = record { sound = s; frames = refl; bytes = refl; out = refl; within = tt; known = tt }

-- ---- one call

-- what a call that is done answers, by what its trail sent
record Tells (o : List ℕ) (ps : List Sent) (x : Outcome) : Type 0 where
  frames : x.sent.frames ≡ length ps
  most : x.sent.frames ≤ most_frames
  bytes : x.sent.bytes ≡ length (wire ps)
  out : x.out ≡ wire ps ++ drop x.sent.bytes o
  parsed : parse x.sent.frames (take x.sent.bytes x.out) ≡ frames_of ps
  within : Within ps

tells : (o : List ℕ) (ps : List Sent) (w : World) → Wired o ps w → Tells o ps (done w)
tells o ps w i =
    record {
      frames = i.frames;
      most = i.sound.ready.frames;
      bytes = i.bytes;
      out = i.out;
      parsed = ap (λ (n : ℕ). parse n (take w.told.sent.bytes w.told.out)) i.frames
          ∙ ap (λ (l : List ℕ). parse (length ps) (take w.told.sent.bytes l)) i.out
          ∙ ap (parse (length ps)) (take_at (wire ps) (drop w.told.sent.bytes o) w.told.sent.bytes (sym i.bytes) ∙ sym (append-nil (wire ps)))
          ∙ parse-wire ps [] i.known;
      within = i.within;
    }

-- a refused call sends nothing, and leaves the output
refused-sent : (h : Held) (c : Call) → (refused_of h c).sent ≡ unsent
refused-sent h (batch out at b values) = refl
refused-sent h (timer out at) = refl
refused-sent h (connected out handle at) = refl
refused-sent h (disconnected at) = refl
refused-sent h (advertising v) = refl
refused-sent h (scan_response at a d) = refl
refused-sent h (fragment out at start bytes) = refl
refused-sent h (reads r) = refl

refused-out : (h : Held) (c : Call) → (refused_of h c).out ≡ out_of c
refused-out h (batch out at b values) = refl
refused-out h (timer out at) = refl
refused-out h (connected out handle at) = refl
refused-out h (disconnected at) = refl
refused-out h (advertising v) = refl
refused-out h (scan_response at a d) = refl
refused-out h (fragment out at start bytes) = refl
refused-out h (reads r) = refl

silent : (o : List ℕ) (x : Outcome) → x.sent ≡ unsent → x.out ≡ o → Tells o [] x
silent o x e f =
    let n : x.sent.frames ≡ 0 = ap (λ s. s.frames) e in
    let b : x.sent.bytes ≡ 0 = ap (λ s. s.bytes) e in
    record {
      frames = n;
      most = omega (arith, n);
      bytes = b;
      out = f ∙ ap (λ (k : ℕ). drop k o) (sym b);
      parsed = ap (λ (k : ℕ). parse k (take x.sent.bytes x.out)) n;
      within = tt;
    }

-- whatever the state, its arrays having their sizes
pub on-wire-call : (h : Held) (c : Call) → Sizes h.state → OnWire h c (does h c)
on-wire-call h c z =
    let t = subst (λ (x : Outcome). Tells (out_of c) (sent_by h c) x) (sym (does-law h c)) (go (done? h c) refl) in
    record {
      frames = t.frames;
      most = t.most;
      bytes = t.bytes;
      out = t.out;
      parsed = t.parsed;
      within = t.within;
      refused = λ e.
          let r : does h c ≡ refused_of h c = does-law h c ∙ ap (λ (b : Bool). pick b (done (final (begins h c) (goes h c))) (refused_of h c)) e in
          (ap (λ (x : Outcome). x.sent) r ∙ refused-sent h c, ap (λ (x : Outcome). x.out) r ∙ refused-out h c);
    }
  where
    go : (b : Bool) → done? h c ≡ b → Tells (out_of c) (pick b (sent_along (begins h c) (goes h c)) []) (pick b (done (final (begins h c) (goes h c))) (refused_of h c))
    go true e =
        let g = good h c e z in
        tells (out_of c) (sent_along (begins h c) (goes h c)) (final (begins h c) (goes h c)) (wired-hops (out_of c) [] g.hops (wired-begins h c g.sound))
    go false e = silent (out_of c) (refused_of h c) (refused-sent h c) (refused-out h c)

-- ---- THE THEOREM: after any sequence of calls from a fresh state with any store, refused ones too, the next call
pub on-wire : (options : Options) (store : List ℕ) (cs : List Call) (c : Call) → let h = run (fresh options store) cs in OnWire h c (does h c)
on-wire options store cs c = on-wire-call (run (fresh options store) cs) c (books options store cs).sizes
