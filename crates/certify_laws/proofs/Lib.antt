mod OneAnswer
mod OneVerdict
mod Opening
mod TooMany
