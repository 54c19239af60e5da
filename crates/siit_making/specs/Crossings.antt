-- A generated capture that is carried through a network, from the left, with nothing at the right.
use Rattle.std.specs.Prelude.{◌≡◌, ℕ, List, Option, Some, None}
use Rattle.std.specs.Str.{IsUtf8}
use Rattle.siit_chain.specs.Carried.{Chain}
use Rattle.siit_chain.specs.declared.origin.End.{End}
use Rattle.siit_chain.specs.declared.origin.End.TheVariants as ends
use Rattle.siit_chain.specs.declared.origin.Output.{Output}
use Rattle.siit_engine.specs.Placed.{Placed}
use Rattle.siit_network.specs.Crossings.{Crossing}
use Rattle.siit_running.specs.declared.fault.RunFault.{RunFault}
use Rattle.siit_running.specs.declared.fault.RunFault.TheVariants.{ReadFault, WriteFault, BadCapture, TooLong, NoMemory}
use Rattle.siit_word.specs.Files.{FilesMeaning}
use Rattle.siit_making.specs.Captures.{generated_capture}
use Rattle.siit_making.specs.Through.{with_capture}

-- the left capture alone
abbrev pub left_capture : (name : List ℕ) → End → Option (List ℕ)
left_capture name ends.Left = Some name
left_capture name ends.Right = None

-- the crossing of the capture of so many packets by a seed, which this name stands for
abbrev pub generated_crossing : Chain Placed → (count seed : ℕ) (name : List ℕ) (outputs : Output → Option (List ℕ))
    (before now : FilesMeaning) (coming_before coming_now : ℕ → ℕ → ℕ) → Crossing
generated_crossing chain count seed name outputs before now coming_before coming_now = record {
  network = chain;
  captures = left_capture name;
  outputs = outputs;
  before = with_capture before name (generated_capture count seed);
  now = with_capture now name (generated_capture count seed);
  coming_before = coming_before;
  coming_now = coming_now;
}

-- Each output has a text as its name.
abbrev pub AreTexts : (names : Output → Option (List ℕ)) → Type 0
AreTexts names = (o : Output) (q : List ℕ) → names o ≡ Some q → IsUtf8 q

-- The fault is none of a capture.
abbrev pub IsNoCaptureFault : RunFault → Type 0
IsNoCaptureFault (ReadFault end) = ⊥
IsNoCaptureFault WriteFault = Unit {0}
IsNoCaptureFault (BadCapture end place fault) = ⊥
IsNoCaptureFault (TooLong end) = ⊥
IsNoCaptureFault NoMemory = Unit {0}
