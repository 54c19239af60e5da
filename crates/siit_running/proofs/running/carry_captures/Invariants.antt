use Rattle.std.proofs.Common.{◌≡◌, vec_len}
use Rattle.siit_chain.specs.Carried.{chain_of}
use Rattle.siit_chain.specs.Outputs.{name_in, names_in}
use Rattle.siit_running.specs.Ends.{turns_of}
use Rattle.siit_running.specs.Inputs.{input_name}
use Rattle.siit_running.proofs.UnderWay.{IsRunning}
use Rattle.siit_running.proofs.running.carry_captures.Given as goal

abbrev pub invariant-loop-origin : goal.invariant-loop-origin
invariant-loop-origin g l =
    let device = g.D.Device in
    let meaning = g.F.Files.meaning in
    let coming = g.I.Idents.coming in
    let chain = chain_of device.outcome device.measure l.fn.chain.devices.items l.fn.chain.left l.fn.chain.right in
    record {
      run : IsRunning chain (coming l.fn.idents) (coming l.idents) (input_name l.inputs) (name_in l.outs) (names_in l.outs) (meaning l.fn.files) (meaning l.files) l.captures l.written;
      room : vec_len l.captures.piece ≡ 65536;
      devices : l.chain.devices ≡ l.fn.chain.devices;
      left : l.chain.left ≡ l.fn.chain.left;
      right : l.chain.right ≡ l.fn.chain.right;
    }

abbrev pub decreases-loop-origin : goal.decreases-loop-origin
decreases-loop-origin g l = turns_of l.captures
