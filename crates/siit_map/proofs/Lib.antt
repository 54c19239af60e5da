pub mod ComeBack
