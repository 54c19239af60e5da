use Rattle.std.proofs.Common.{◌≡◌, None, Some, option_map, ap, ◌∙◌, rules}
use Rattle.std.specs.Option.{option_or}
use Rattle.siit_addr.specs.Texts.{ipv4_of_text, ipv6_of_text}
use Rattle.siit_addr.proofs.Prefixes.{number4, number6}
use Rattle.siit_command.specs.Addresses.{address_read}
use Rattle.siit_command.specs.Words.{four, six}
use Rattle.siit_command.proofs.words.read_address.Goals as goal

pub returns-in-Some : goal.returns-in-Some
returns-in-Some c =
    let number : Some c.in-Some.a.0 ≡ ipv4_of_text c.args.text.now = number4 (Some c.in-Some.a) (ipv4_of_text c.args.text.now) c.in-Some.ensures in
    ap (λ o. option_or (option_map four o) (option_map six (ipv6_of_text c.args.text.now))) number

pub returns-in_err-x : goal.returns-in_err-x
returns-in_err-x c =
    let none4 : None ≡ ipv4_of_text c.args.text.now = number4 None (ipv4_of_text c.args.text.now) c.in_default.ensures in
    let none6 : None ≡ ipv6_of_text c.args.text.now = number6 None (ipv6_of_text c.args.text.now) c.in_err-x.ensures in
    let none : c.from_residual.result ≡ None = search rules in
    ap (option_map address_read) none ∙ ap (option_map six) none6
    ∙ ap (λ o. option_or (option_map four o) (option_map six (ipv6_of_text c.args.text.now))) none4

pub returns : goal.returns
returns c =
    let none4 : None ≡ ipv4_of_text c.args.text.now = number4 None (ipv4_of_text c.args.text.now) c.in_default.ensures in
    let number : Some c.in_ok-x.x.0 ≡ ipv6_of_text c.args.text.now = number6 (Some c.in_ok-x.x) (ipv6_of_text c.args.text.now) c.in_ok-x.ensures in
    ap (option_map six) number
    ∙ ap (λ o. option_or (option_map four o) (option_map six (ipv6_of_text c.args.text.now))) none4
