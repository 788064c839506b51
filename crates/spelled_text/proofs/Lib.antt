mod Known
mod Behind
mod TokensLeft
