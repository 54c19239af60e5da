use Rattle.std.proofs.Common.{◌≡◌, [], ◌∷◌, false, length, refl, sym, ap, subst, ◌∙◌}
use Rattle.siit_chain.specs.Carried.{HasComing, Trace, captured_packet, carry, carry_captured, chain_of, entering_at, fresh}
use Rattle.siit_chain.specs.Counted.{added, counts_of}
use Rattle.siit_chain.specs.Log.{drops, entry_text, text_of}
use Rattle.siit_chain.specs.Outputs.{name_in, GrewBy, GrewByPart}
use Rattle.siit_chain.specs.declared.origin.Counts.{Counts}
use Rattle.siit_chain.specs.declared.origin.Output.TheVariants as outputs
use Rattle.siit_chain.proofs.Grown.{entry_text-drops, on_err_from, wrote_entry, wrote_entry_part}
use Rattle.siit_carry.specs.Captured.{judged}
use Rattle.siit_carry.specs.Steps.{packet_at}
use Rattle.siit_carry.proofs.Entering.{captured_err, captured_ok}
use Rattle.siit_carry.proofs.Ways.{added_twice}
use Rattle.siit_carry.proofs.chain.Chain.carry.Goals as goal

pub returns-in_err-follow-in-Ok-clause-err : goal.returns-in_err-follow-in-Ok-clause-err
returns-in_err-follow-in-Ok-clause-err g c =
    let names = name_in c.args.outs in
    let origin = c.args.origin in
    let left = c.args.self.now.left in
    let right = c.args.self.now.right in
    let outcome = g.D.Device.outcome in
    let measure = g.D.Device.measure in
    let chain = chain_of outcome measure c.args.self.now.devices.items left right in
    let coming = g.I.Idents.coming c.args.idents.now in
    let packet = captured_packet c.args.packet in
    let old = g.F.Files.meaning c.args.files.now in
    let all = carry_captured chain origin (fresh coming) packet in
    let bytes = c.in-Ok.bytes.now in
    let held = c.load.new.self.bytes in
    let at = c.entering-at.result in
    let is_judged = c.in-Ok.ensures.value ∙ ap (λ w. judged w packet) c.family_at-wanted.ensures in
    let all_is : carry (chain_of outcome measure c.deref.result.now left right) origin (fresh coming) (packet_at at held) ≡ all =
    ap (λ devices. carry (chain_of outcome measure devices left right) origin (fresh coming) (packet_at at held)) c.deref.ensures.value
    ∙ ap (carry chain origin (fresh coming)) (c.entering-at.ensures.place held) ∙ ap (λ devices. carry chain origin (fresh coming) (entering_at (length devices) origin.end held)) c.deref.ensures.value
    ∙ ap (λ buf. carry chain origin (fresh coming) (entering_at (length chain.devices) origin.end buf.bytes)) c.load.ensures
    ∙ sym (captured_ok chain origin coming packet bytes is_judged) in
    let new = g.F.Files.meaning c.follow.new.files in
    on_err_from c.from_residual.result (subst (λ (x : Trace). GrewByPart names old new (text_of x.log)) all_is c.in_err-follow-in-Ok.ensures.err)

pub returns-in_ok-follow-in-Ok-clause-ok : goal.returns-in_ok-follow-in-Ok-clause-ok
returns-in_ok-follow-in-Ok-clause-ok g c =
    let names = name_in c.args.outs in
    let origin = c.args.origin in
    let left = c.args.self.now.left in
    let right = c.args.self.now.right in
    let outcome = g.D.Device.outcome in
    let measure = g.D.Device.measure in
    let chain = chain_of outcome measure c.args.self.now.devices.items left right in
    let coming = g.I.Idents.coming c.args.idents.now in
    let packet = captured_packet c.args.packet in
    let old = g.F.Files.meaning c.args.files.now in
    let all = carry_captured chain origin (fresh coming) packet in
    let bytes = c.in-Ok.bytes.now in
    let held = c.load.new.self.bytes in
    let at = c.entering-at.result in
    let is_judged = c.in-Ok.ensures.value ∙ ap (λ w. judged w packet) c.family_at-wanted.ensures in
    let all_is : carry (chain_of outcome measure c.deref.result.now left right) origin (fresh coming) (packet_at at held) ≡ all =
    ap (λ devices. carry (chain_of outcome measure devices left right) origin (fresh coming) (packet_at at held)) c.deref.ensures.value
    ∙ ap (carry chain origin (fresh coming)) (c.entering-at.ensures.place held) ∙ ap (λ devices. carry chain origin (fresh coming) (entering_at (length devices) origin.end held)) c.deref.ensures.value
    ∙ ap (λ buf. carry chain origin (fresh coming) (entering_at (length chain.devices) origin.end buf.bytes)) c.load.ensures
    ∙ sym (captured_ok chain origin coming packet bytes is_judged) in
    let new = g.F.Files.meaning c.follow.new.files in
    subst (λ (x : Trace). GrewBy names old new (text_of x.log)) all_is c.in_ok-follow-in-Ok.ensures.done.grew

pub returns-in_ok-follow-in-Ok-clause-counts : goal.returns-in_ok-follow-in-Ok-clause-counts
returns-in_ok-follow-in-Ok-clause-counts g c =
    let names = name_in c.args.outs in
    let origin = c.args.origin in
    let left = c.args.self.now.left in
    let right = c.args.self.now.right in
    let outcome = g.D.Device.outcome in
    let measure = g.D.Device.measure in
    let chain = chain_of outcome measure c.args.self.now.devices.items left right in
    let coming = g.I.Idents.coming c.args.idents.now in
    let packet = captured_packet c.args.packet in
    let old = g.F.Files.meaning c.args.files.now in
    let all = carry_captured chain origin (fresh coming) packet in
    let bytes = c.in-Ok.bytes.now in
    let held = c.load.new.self.bytes in
    let at = c.entering-at.result in
    let is_judged = c.in-Ok.ensures.value ∙ ap (λ w. judged w packet) c.family_at-wanted.ensures in
    let all_is : carry (chain_of outcome measure c.deref.result.now left right) origin (fresh coming) (packet_at at held) ≡ all =
    ap (λ devices. carry (chain_of outcome measure devices left right) origin (fresh coming) (packet_at at held)) c.deref.ensures.value
    ∙ ap (carry chain origin (fresh coming)) (c.entering-at.ensures.place held) ∙ ap (λ devices. carry chain origin (fresh coming) (entering_at (length devices) origin.end held)) c.deref.ensures.value
    ∙ ap (λ buf. carry chain origin (fresh coming) (entering_at (length chain.devices) origin.end buf.bytes)) c.load.ensures
    ∙ sym (captured_ok chain origin coming packet bytes is_judged) in
    let new = g.F.Files.meaning c.follow.new.files in
    let done = c.in_ok-follow-in-Ok.ensures.done in
    let log = (carry (chain_of outcome measure c.deref.result.now left right) origin (fresh coming) (packet_at at held)).log in
    done.counts ∙ ap (λ (n : Counts). added n log) c.none-counts.ensures ∙ added_twice (record { left = 0; right = 0; dropped = 0 }) [] log ∙ ap (λ (x : Trace). counts_of x.log) all_is

pub returns-in_ok-follow-in-Ok-clause-numbers : goal.returns-in_ok-follow-in-Ok-clause-numbers
returns-in_ok-follow-in-Ok-clause-numbers g c =
    let names = name_in c.args.outs in
    let origin = c.args.origin in
    let left = c.args.self.now.left in
    let right = c.args.self.now.right in
    let outcome = g.D.Device.outcome in
    let measure = g.D.Device.measure in
    let chain = chain_of outcome measure c.args.self.now.devices.items left right in
    let coming = g.I.Idents.coming c.args.idents.now in
    let packet = captured_packet c.args.packet in
    let old = g.F.Files.meaning c.args.files.now in
    let all = carry_captured chain origin (fresh coming) packet in
    let bytes = c.in-Ok.bytes.now in
    let held = c.load.new.self.bytes in
    let at = c.entering-at.result in
    let is_judged = c.in-Ok.ensures.value ∙ ap (λ w. judged w packet) c.family_at-wanted.ensures in
    let all_is : carry (chain_of outcome measure c.deref.result.now left right) origin (fresh coming) (packet_at at held) ≡ all =
    ap (λ devices. carry (chain_of outcome measure devices left right) origin (fresh coming) (packet_at at held)) c.deref.ensures.value
    ∙ ap (carry chain origin (fresh coming)) (c.entering-at.ensures.place held) ∙ ap (λ devices. carry chain origin (fresh coming) (entering_at (length devices) origin.end held)) c.deref.ensures.value
    ∙ ap (λ buf. carry chain origin (fresh coming) (entering_at (length chain.devices) origin.end buf.bytes)) c.load.ensures
    ∙ sym (captured_ok chain origin coming packet bytes is_judged) in
    let new = g.F.Files.meaning c.follow.new.files in
    subst (λ (x : Trace). HasComing (g.I.Idents.coming c.follow.new.idents) x) all_is c.in_ok-follow-in-Ok.ensures.done.comes

pub returns-in_err-write-in-Err-clause-err : goal.returns-in_err-write-in-Err-clause-err
returns-in_err-write-in-Err-clause-err g c =
    let names = name_in c.args.outs in
    let origin = c.args.origin in
    let left = c.args.self.now.left in
    let right = c.args.self.now.right in
    let outcome = g.D.Device.outcome in
    let measure = g.D.Device.measure in
    let chain = chain_of outcome measure c.args.self.now.devices.items left right in
    let coming = g.I.Idents.coming c.args.idents.now in
    let packet = captured_packet c.args.packet in
    let old = g.F.Files.meaning c.args.files.now in
    let all = carry_captured chain origin (fresh coming) packet in
    let rule = c.in-Err.rule in
    let is_judged = c.in-Err.ensures.value ∙ ap (λ w. judged w packet) c.family_at-wanted.ensures in
    let entry = drops origin 0 rule false in
    let all_is : all ≡ record { log = entry ∷ []; coming = coming } = captured_err chain origin coming packet rule is_judged in
    let new = g.F.Files.meaning c.write.new.files in
    let text = c.as_bytes.result.now in
    let is : text ≡ entry_text entry = c.as_bytes.ensures.value ∙ c.as_str.ensures.value ∙ c.report_line-line.ensures ∙ sym (entry_text-drops origin 0 rule false) in
    on_err_from c.from_residual-in_err-write-in-Err.result
    (subst (λ (x : Trace). GrewByPart names old new (text_of x.log)) (sym all_is)
    (wrote_entry_part entry outputs.Report text refl is c.in_err-write-in-Err.ensures.err))

pub returns-in_ok-write-in-Err-clause-ok : goal.returns-in_ok-write-in-Err-clause-ok
returns-in_ok-write-in-Err-clause-ok g c =
    let names = name_in c.args.outs in
    let origin = c.args.origin in
    let left = c.args.self.now.left in
    let right = c.args.self.now.right in
    let outcome = g.D.Device.outcome in
    let measure = g.D.Device.measure in
    let chain = chain_of outcome measure c.args.self.now.devices.items left right in
    let coming = g.I.Idents.coming c.args.idents.now in
    let packet = captured_packet c.args.packet in
    let old = g.F.Files.meaning c.args.files.now in
    let all = carry_captured chain origin (fresh coming) packet in
    let rule = c.in-Err.rule in
    let is_judged = c.in-Err.ensures.value ∙ ap (λ w. judged w packet) c.family_at-wanted.ensures in
    let entry = drops origin 0 rule false in
    let all_is : all ≡ record { log = entry ∷ []; coming = coming } = captured_err chain origin coming packet rule is_judged in
    let new = g.F.Files.meaning c.write.new.files in
    let text = c.as_bytes.result.now in
    let is : text ≡ entry_text entry = c.as_bytes.ensures.value ∙ c.as_str.ensures.value ∙ c.report_line-line.ensures ∙ sym (entry_text-drops origin 0 rule false) in
    subst (λ (x : Trace). GrewBy names old new (text_of x.log)) (sym all_is)
    (wrote_entry entry outputs.Report text refl is c.in_ok-write-in-Err.ensures.ok)

pub returns-in_ok-write-in-Err-clause-counts : goal.returns-in_ok-write-in-Err-clause-counts
returns-in_ok-write-in-Err-clause-counts g c =
    let names = name_in c.args.outs in
    let origin = c.args.origin in
    let left = c.args.self.now.left in
    let right = c.args.self.now.right in
    let outcome = g.D.Device.outcome in
    let measure = g.D.Device.measure in
    let chain = chain_of outcome measure c.args.self.now.devices.items left right in
    let coming = g.I.Idents.coming c.args.idents.now in
    let packet = captured_packet c.args.packet in
    let old = g.F.Files.meaning c.args.files.now in
    let all = carry_captured chain origin (fresh coming) packet in
    let rule = c.in-Err.rule in
    let is_judged = c.in-Err.ensures.value ∙ ap (λ w. judged w packet) c.family_at-wanted.ensures in
    let entry = drops origin 0 rule false in
    let all_is : all ≡ record { log = entry ∷ []; coming = coming } = captured_err chain origin coming packet rule is_judged in
    let new = g.F.Files.meaning c.write.new.files in
    let text = c.as_bytes.result.now in
    let is : text ≡ entry_text entry = c.as_bytes.ensures.value ∙ c.as_str.ensures.value ∙ c.report_line-line.ensures ∙ sym (entry_text-drops origin 0 rule false) in
    c.count_drop.ensures origin 0 rule false ∙ ap (λ (n : Counts). added n (entry ∷ [])) c.none-counts.ensures
    ∙ added_twice (record { left = 0; right = 0; dropped = 0 }) [] (entry ∷ []) ∙ ap (λ (x : Trace). counts_of x.log) (sym all_is)

pub returns-in_ok-write-in-Err-clause-numbers : goal.returns-in_ok-write-in-Err-clause-numbers
returns-in_ok-write-in-Err-clause-numbers g c =
    let names = name_in c.args.outs in
    let origin = c.args.origin in
    let left = c.args.self.now.left in
    let right = c.args.self.now.right in
    let outcome = g.D.Device.outcome in
    let measure = g.D.Device.measure in
    let chain = chain_of outcome measure c.args.self.now.devices.items left right in
    let coming = g.I.Idents.coming c.args.idents.now in
    let packet = captured_packet c.args.packet in
    let old = g.F.Files.meaning c.args.files.now in
    let all = carry_captured chain origin (fresh coming) packet in
    let rule = c.in-Err.rule in
    let is_judged = c.in-Err.ensures.value ∙ ap (λ w. judged w packet) c.family_at-wanted.ensures in
    let entry = drops origin 0 rule false in
    let all_is : all ≡ record { log = entry ∷ []; coming = coming } = captured_err chain origin coming packet rule is_judged in
    let new = g.F.Files.meaning c.write.new.files in
    let text = c.as_bytes.result.now in
    let is : text ≡ entry_text entry = c.as_bytes.ensures.value ∙ c.as_str.ensures.value ∙ c.report_line-line.ensures ∙ sym (entry_text-drops origin 0 rule false) in
    record { each = λ device k. ap (λ (x : Trace). x.coming device k) (sym all_is) }
